-- Fields that are written so are fields of HTTP's grammar.
use Rattle.std.proofs.Common.{◌≡◌, ℕ, ◌+◌, ◌<◌, ◌^◌, ◌%◌, true, List, [], ◌∷◌, length, decimal, refl, arith, IsTrue}
use Rattle.std.specs.List.{list_all}
use Rattle.std.proofs.lemmas.Bool.Decides.{nat_tests}
use Rattle.std.proofs.lemmas.Fmt.{decimal_by_steps}
use Rattle.std.proofs.lemmas.List.Elements.{All-cons, All-nil, All-append}
use Rattle.std.proofs.lemmas.List.Sums.{AllPass-from_list_all}
use Rattle.httparse.specs.Ascii.{space}
use Rattle.httparse.specs.Grammar.{AllPass, IsField, is_token_byte, is_value_byte}
use Rattle.net_heads.specs.Written.{field}

-- a field whose name and value pass the tests
pub is_field : (name value : List ℕ) → 0 < length name → list_all is_token_byte name ≡ true → AllPass is_value_byte value → IsField (field name value)
is_field name value long name_passes value_passes = record {
  name = (long, AllPass-from_list_all is_token_byte name name_passes);
  raw = All-cons (λ b. IsTrue (is_value_byte b)) space value refl value_passes;
}

digit_passes : (n : ℕ) → n < 10 → IsTrue (is_value_byte (48 + n))
digit_passes n small = grind (arith, nat_tests)

-- a number may be a value
pub size_passes : (n : ℕ) → n < 2 ^ 64 → AllPass is_value_byte (decimal n)
size_passes n small =
    decimal_by_steps (λ _ ds. AllPass is_value_byte ds)
    (λ n one. All-cons (λ b. IsTrue (is_value_byte b)) (48 + n) [] (digit_passes n one) (All-nil (λ b. IsTrue (is_value_byte b))))
    (λ n ds more passes. All-append (λ b. IsTrue (is_value_byte b)) ds ((48 + n % 10) ∷ []) passes
    (All-cons (λ b. IsTrue (is_value_byte b)) (48 + n % 10) [] (digit_passes (n % 10) (omega arith)) (All-nil (λ b. IsTrue (is_value_byte b)))))
    n small
