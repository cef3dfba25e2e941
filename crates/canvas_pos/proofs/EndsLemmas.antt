-- A fraction m / 95^n is compared with a position by n of its digits.
use Rattle.std.proofs.Common.{◌≡◌, ◌≢◌, ℕ, zero, suc, ◌+◌, ◌-◌, ◌*◌, ◌^◌, ◌<◌, ◌≤◌, min, List, [], ◌∷◌, length, get_or, drop, ap, ◌∙◌, arith, All, inl, inr}
use Rattle.std.proofs.Math.Nat.{one-le-pow, mul-le-mul_right, mul-lt-mul_of_pos_right}
use Rattle.std.proofs.lemmas.Nat.{pow-add}
use Rattle.std.proofs.lemmas.List.{length-drop, get_or-drop}
use Rattle.std.proofs.lemmas.Bool.{cases_lt}
use Rattle.canvas_model.specs.Position.{IsDigitByte, digit, num}
use Rattle.canvas_pos.proofs.Numbers.{num-suc, num-below, num-add, num-past, digits-tail}
use Rattle.canvas_pos.proofs.Products.{below-rest, above-rest, below-over, above-over}

pub power-pos : (n : ℕ) → 0 < 95 ^ n
power-pos n = omega (arith, one-le-pow n 95 (omega arith))

pub digits-drop : (n : ℕ) (s : List ℕ) → All IsDigitByte s → All IsDigitByte (drop n s)
digits-drop zero s h = h
digits-drop (suc n) [] h = h
digits-drop (suc n) (x ∷ xs) h = digits-drop n xs (digits-tail x xs h)

-- a power in two factors
pub power-split : (n l : ℕ) → n ≤ l → 95 ^ l ≡ 95 ^ n * 95 ^ (l - n)
power-split n l h = ap (λ e. 95 ^ e) (let e : l ≡ n + (l - n) = omega arith in e) ∙ pow-add 95 n (l - n)

-- the first l digits are the first n, and the rest
pub num-split : (s : List ℕ) (n l : ℕ) → n ≤ l → num s l ≡ num s n * 95 ^ (l - n) + num (drop n s) (l - n)
num-split s n l h = ap (num s) (let e : l ≡ n + (l - n) = omega arith in e) ∙ num-add s n (l - n)

-- past the end the number grows by powers of 95
pub num-long : (s : List ℕ) (n l : ℕ) → length s ≤ n → n ≤ l → num s l ≡ num s n * 95 ^ (l - n)
num-long s n l h k = ap (num s) (let e : l ≡ n + (l - n) = omega arith in e) ∙ num-past s n (l - n) h

-- digits that end in another one than 0 are no 0
pub num-pos : (s : List ℕ) (n : ℕ) → 0 < length s → length s ≤ n → All IsDigitByte s → get_or s (length s - 1) 32 ≢ 32 → 0 < num s n
num-pos s n l h d e =
    let here : IsDigitByte (get_or s (length s - 1) 32) = d (length s - 1) 32 (omega arith) in
    let last : 0 < digit s (length s - 1) = omega (arith, e) in
    let at : num s (length s) ≡ 95 * num s (length s - 1) + digit s (length s - 1) =
    ap (num s) (let e : length s ≡ suc (length s - 1) = omega arith in e) ∙ num-suc s (length s - 1) in
    let some : 1 ≤ num s (length s) = omega arith in
    let more : 1 * 95 ^ (n - length s) ≤ num s (length s) * 95 ^ (n - length s) = mul-le-mul_right (95 ^ (n - length s)) some in
    omega (arith, num-long s (length s) n (omega arith) h, power-pos (n - length s), more)

-- what is left of a position past its first n digits, where it is longer, is no 0
rest-pos : (s : List ℕ) (n : ℕ) → n < length s → All IsDigitByte s → get_or s (length s - 1) 32 ≢ 32 → 0 < num (drop n s) (length s - n)
rest-pos s n h d e =
    let len : length (drop n s) ≡ length s - n = length-drop n s in
    let at : get_or (drop n s) (length s - n - 1) 32 ≡ get_or s (length s - 1) 32 =
    get_or-drop n s (length s - n - 1) 32 ∙ ap (λ j. get_or s j 32) (let e : n + (length s - n - 1) ≡ length s - 1 = omega arith in e) in
    num-pos (drop n s) (length s - n) (omega arith) (omega arith) (digits-drop n s d) (rw (len, at) e)

-- m / 95^n is greater than the fraction of digits exactly where m is greater than their first n
pub above-from : (s : List ℕ) (n m : ℕ) → All IsDigitByte s → num s n < m → num s (length s) * 95 ^ n < m * 95 ^ length s
above-from s n m d h = elim (cases_lt n (length s)) [
  | inl lt ↦
      rw (power-split n (length s) (omega arith), num-split s n (length s) (omega arith))
      (below-rest (num s n) (num (drop n s) (length s - n)) m (95 ^ (length s - n)) (95 ^ n) (num-below (drop n s) (length s - n) (digits-drop n s d)) (power-pos n) h)
  | inr ge ↦
      let at : num s n ≡ num s (length s) * 95 ^ (n - length s) = num-long s (length s) n (omega arith) ge in
      let step : num s (length s) * 95 ^ (n - length s) * 95 ^ length s < m * 95 ^ length s = mul-lt-mul_of_pos_right (omega arith) (power-pos (length s)) in
      rw (power-split (length s) n ge) (omega arith)
]

pub above-to : (s : List ℕ) (n m : ℕ) → All IsDigitByte s → m ≤ num s n → m * 95 ^ length s ≤ num s (length s) * 95 ^ n
above-to s n m d h = elim (cases_lt n (length s)) [
  | inl lt ↦
      rw (power-split n (length s) (omega arith), num-split s n (length s) (omega arith))
      (above-rest (num s n) (num (drop n s) (length s - n)) m (95 ^ (length s - n)) (95 ^ n) h)
  | inr ge ↦
      let at : num s n ≡ num s (length s) * 95 ^ (n - length s) = num-long s (length s) n (omega arith) ge in
      let step : m * 95 ^ length s ≤ num s (length s) * 95 ^ (n - length s) * 95 ^ length s = mul-le-mul_right (95 ^ length s) (omega arith) in
      rw (power-split (length s) n ge) (omega arith)
]

-- m / 95^n is less than the fraction of a position exactly where m is at most its first n digits, and less than them where it has no more
pub below-from : (s : List ℕ) (n m : ℕ) → All IsDigitByte s → get_or s (length s - 1) 32 ≢ 32 → m < num s n + min 1 (length s - n) → m * 95 ^ length s < num s (length s) * 95 ^ n
below-from s n m d e h = elim (cases_lt n (length s)) [
  | inl lt ↦
      rw (power-split n (length s) (omega arith), num-split s n (length s) (omega arith))
      (below-over (num s n) (num (drop n s) (length s - n)) m (95 ^ (length s - n)) (95 ^ n) (rest-pos s n lt d e) (power-pos n) (omega arith))
  | inr ge ↦
      let at : num s n ≡ num s (length s) * 95 ^ (n - length s) = num-long s (length s) n (omega arith) ge in
      let step : m * 95 ^ length s < num s (length s) * 95 ^ (n - length s) * 95 ^ length s = mul-lt-mul_of_pos_right (omega arith) (power-pos (length s)) in
      rw (power-split (length s) n ge) (omega arith)
]

pub below-to : (s : List ℕ) (n m : ℕ) → All IsDigitByte s → num s n + min 1 (length s - n) ≤ m → num s (length s) * 95 ^ n ≤ m * 95 ^ length s
below-to s n m d h = elim (cases_lt n (length s)) [
  | inl lt ↦
      rw (power-split n (length s) (omega arith), num-split s n (length s) (omega arith))
      (above-over (num s n) (num (drop n s) (length s - n)) m (95 ^ (length s - n)) (95 ^ n) (num-below (drop n s) (length s - n) (digits-drop n s d)) (omega arith))
  | inr ge ↦
      let at : num s n ≡ num s (length s) * 95 ^ (n - length s) = num-long s (length s) n (omega arith) ge in
      let step : num s (length s) * 95 ^ (n - length s) * 95 ^ length s ≤ m * 95 ^ length s = mul-le-mul_right (95 ^ length s) (omega arith) in
      rw (power-split (length s) n ge) (omega arith)
]
