-- Numbers up to 2^62 are written in one way.
use Rattle.std.proofs.Common.{◌≡◌, inl, inr, ℕ, ◌<◌, ◌≤◌, ◌^◌, List, [], ◌∷◌, length, get_or, sym, ap, subst, ◌∙◌, arith}
use Rattle.std.specs.Fmt.{decimal}
use Rattle.std.proofs.lemmas.Bool.{cases_eq}
use Rattle.std.proofs.lemmas.Fmt.{decimal_nonempty, length-decimal-le, first_decimal, decimal_digit, digits_decimal, digits_value-decimal}
use Rattle.std.proofs.lemmas.Str.Parse.{IsNumeralModel, numerals_by_value, tells_by_index}
use Rattle.canvas_model.specs.Words.{Lacks}
use Rattle.canvas_model.proofs.Spelled.{AreDigits, value_of}

own : IsNumeralModel AreDigits value_of
own = numerals_by_value _ tells_by_index

module _ (s : List ℕ) (n : ℕ) (small : n ≤ 2 ^ 62) (is : s ≡ decimal n) where
  pub count_some : 0 < length s
  count_some = let a = decimal_nonempty n (omega arith) in let b = ap length is in omega arith

  pub count_short : length s ≤ 19
  count_short = let a = length-decimal-le 19 n (omega arith) (omega arith) (omega arith) in let b = ap length is in omega arith

  pub count_lead : get_or s 0 0 ≡ 48 → 1 < length s → ⊥
  count_lead zero_first more = elim (cases_eq n 0) [
    | inl e ↦
        let one : decimal 0 ≡ 48 ∷ [] = decimal_digit 0 (omega arith) in
        let b : length s ≡ 1 = ap length (is ∙ ap decimal e ∙ one) in
        omega arith
    | inr ne ↦
        let a = first_decimal n (omega arith) (omega arith) in
        let b = ap (λ (s : List ℕ). get_or s 0 0) is in
        omega arith
  ]

  pub count_digits : AreDigits s
  count_digits = subst AreDigits (sym is) (digits_decimal own n (omega arith))

  pub count_value : value_of s ≡ n
  count_value = ap value_of is ∙ digits_value-decimal own n (omega arith)

  pub count_lacks : Lacks 32 s
  count_lacks k lt e = let d = count_digits k lt in omega (arith, d.0, d.1)
