-- Digits and their value.
use Rattle.std.proofs.Common.{◌≡◌, inl, inr, ℕ, ◌+◌, ◌-◌, ◌*◌, ◌<◌, ◌≤◌, ◌^◌, List, [], ◌∷◌, length, get_or, take, sym, ap, subst, ◌∙◌, arith, add-one}
use Rattle.std.specs.Int.{IsInRange}
use Rattle.std.specs.Char.{digit_value}
use Rattle.std.specs.Fmt.{decimal}
use Rattle.std.specs.Str.Parse.{digits_value}
use Rattle.std.proofs.Math.Nat.{pow-suc}
use Rattle.std.proofs.lemmas.Bool.{cases_eq}
use Rattle.std.proofs.lemmas.Bool.Decides.{nat_tests}
use Rattle.std.proofs.lemmas.List.{take_more, take_all}
use Rattle.std.proofs.lemmas.Int.Digits.{digits_value_push}
use Rattle.std.proofs.lemmas.Str.Parse.{IsNumeralModel, numerals_by_value, tells_by_index}
use Rattle.std.proofs.lemmas.Fmt.{decimal_nonempty, length-decimal-le, first_decimal, decimal_digit, digits_decimal, digits_value-decimal, decimal-digits_value}

abbrev pub value_of : List ℕ → ℕ
value_of = digits_value 10

abbrev pub DigitsBelow : List ℕ → ℕ → Type 0
DigitsBelow s n = (i : ℕ) → i < n → IsInRange 48 57 (get_or s i 0)

abbrev pub AreDigits : List ℕ → Type 0
AreDigits s = (i : ℕ) → i < length s → IsInRange 48 57 (get_or s i 0)

own : IsNumeralModel AreDigits value_of
own = numerals_by_value _ tells_by_index

module _ (s : List ℕ) (n : ℕ) (small : n < 2 ^ 32) (is : s ≡ decimal n) where
  pub not_empty : 0 < length s
  not_empty = let a = decimal_nonempty n (omega arith) in let b = ap length is in omega arith

  pub not_long : length s ≤ 10
  not_long = let a = length-decimal-le 10 n (omega arith) (omega arith) (omega arith) in let b = ap length is in omega arith

  pub no_leading_zero : get_or s 0 0 ≡ 48 → 1 < length s → ⊥
  no_leading_zero zero_first more = elim (cases_eq n 0) [
    | inl e ↦
        let one : decimal 0 ≡ 48 ∷ [] = decimal_digit 0 (omega arith) in
        let b : length s ≡ 1 = ap length (is ∙ ap decimal e ∙ one) in
        omega arith
    | inr ne ↦
        let a = first_decimal n (omega arith) (omega arith) in
        let b = ap (λ (s : List ℕ). get_or s 0 0) is in
        omega arith
  ]

  pub digits : AreDigits s
  digits = subst AreDigits (sym is) (digits_decimal own n (omega arith))

  pub value_is : value_of s ≡ n
  value_is = ap value_of is ∙ digits_value-decimal own n (omega arith)

digit_is : (c : ℕ) → 48 ≤ c → c ≤ 57 → digit_value c ≡ c - 48
digit_is c lo hi = grind (arith, nat_tests)

-- one more digit
pub value_more : (s : List ℕ) (i : ℕ) → i < length s → 48 ≤ get_or s i 0 → get_or s i 0 ≤ 57 → value_of (take (i + 1) s) ≡ value_of (take i s) * 10 + (get_or s i 0 - 48)
value_more s i lt lo hi = ap value_of (take_more s i 0 lt) ∙ digits_value_push 10 (take i s) (get_or s i 0) ∙ ap (λ d. value_of (take i s) * 10 + d) (digit_is _ lo hi)

pub power_more : (v i d : ℕ) → v < 10 ^ i → d < 10 → v * 10 + d < 10 ^ (i + 1)
power_more v i d lt small = rw add-one (let p = pow-suc 10 i in omega (arith, p))

-- digits without a leading zero are what is written of their value
pub spelled : (s : List ℕ) (i v : ℕ) → v ≡ value_of (take i s) → length s ≤ i → DigitsBelow s i → 0 < length s → (get_or s 0 0 ≡ 48 → 1 < length s → ⊥) → v < 2 ^ 64 → s ≡ decimal v
spelled s i v is whole ds some lead fits =
    let all : v ≡ value_of s = is ∙ ap value_of (take_all i s whole) in
    sym (ap decimal all ∙ decimal-digits_value own s (λ k lt. ds k (omega arith)) some (λ z. elim (cases_eq (length s) 1) [ inl e ↦ e | inr ne ↦ absurd (lead z (omega arith)) ]) (omega arith))

pub whole_value : (s : List ℕ) (i v : ℕ) → v ≡ value_of (take i s) → length s ≤ i → v ≡ value_of s
whole_value s i v is whole = is ∙ ap value_of (take_all i s whole)
