-- The numbers that the first digits of a list are.
use Rattle.std.proofs.Common.{◌≡◌, ℕ, zero, suc, ◌+◌, ◌-◌, ◌*◌, ◌^◌, ◌<◌, ◌≤◌, List, [], ◌∷◌, length, get_or, get_or-drop, drop, ◌++◌, add-one, refl, ap, sym, ◌∙◌, arith, All}
use Rattle.std.proofs.Math.Nat.{pow-suc, pow-zero, add-zero, add-suc, one-le-pow, mul-le-mul_right}
use Rattle.std.proofs.Math.ListN.{drop_of_length-le, get_or-append}
use Rattle.std.proofs.Math.Seq.{get_or-append_seam}
use Rattle.canvas_model.specs.Position.{IsDigitByte, digit, sum_below, num}

-- a common factor in front of a sum
sum_below-scaled : (n k : ℕ) (d : ℕ → ℕ) → k ≤ n
    → sum_below k (λ i. d i * 95 ^ (suc n - 1 - i)) ≡ 95 * sum_below k (λ i. d i * 95 ^ (n - 1 - i))
sum_below-scaled n zero d h = refl
sum_below-scaled n (suc k) d h =
    let rest : sum_below k (λ i. d i * 95 ^ (suc n - 1 - i)) ≡ 95 * sum_below k (λ i. d i * 95 ^ (n - 1 - i)) = sum_below-scaled n k d (omega arith) in
    let power : 95 ^ (suc n - 1 - k) ≡ 95 ^ (n - 1 - k) * 95 = ap (λ e. 95 ^ e) (let e : suc n - 1 - k ≡ suc (n - 1 - k) = omega arith in e) ∙ pow-suc 95 (n - 1 - k) in
    rw power (omega (arith, rest))

-- no digit read, no number
pub num-zero : (s : List ℕ) → num s 0 ≡ 0
unfolding num
num-zero s = refl

-- one more digit
pub num-suc : (s : List ℕ) (n : ℕ) → num s (suc n) ≡ 95 * num s n + digit s n
unfolding num
num-suc s n =
    let front : sum_below n (λ i. digit s i * 95 ^ (suc n - 1 - i)) ≡ 95 * sum_below n (λ i. digit s i * 95 ^ (n - 1 - i)) = sum_below-scaled n n (digit s) (omega arith) in
    let power : 95 ^ (suc n - 1 - n) ≡ 1 = ap (λ e. 95 ^ e) (let e : suc n - 1 - n ≡ 0 = omega arith in e) ∙ pow-zero 95 in
    rw power (omega (arith, front))

-- the first digit apart
pub num-cons : (x : ℕ) (xs : List ℕ) (n : ℕ) → num (x ∷ xs) (suc n) ≡ (x - 32) * 95 ^ n + num xs n
num-cons x xs zero = omega (arith, num-suc (x ∷ xs) 0, num-zero (x ∷ xs), num-zero xs)
num-cons x xs (suc n) =
    let rest : num (x ∷ xs) (suc n) ≡ (x - 32) * 95 ^ n + num xs n = num-cons x xs n in
    rw pow-suc (omega (arith, num-suc (x ∷ xs) (suc n), num-suc xs n, rest))

-- no digits, no number
pub num-empty : (n : ℕ) → num [] n ≡ 0
num-empty zero = num-zero []
num-empty (suc n) = omega (arith, num-suc [] n, num-empty n)

pub digits-tail : (x : ℕ) (xs : List ℕ) → All IsDigitByte (x ∷ xs) → All IsDigitByte xs
digits-tail x xs h = λ k d lt. h (suc k) d (omega arith)

-- n digits are below 95^n
pub num-below : (s : List ℕ) (n : ℕ) → All IsDigitByte s → num s n < 95 ^ n
num-below s zero h = omega (arith, num-zero s)
num-below [] (suc n) h = omega (arith, num-empty (suc n), one-le-pow (suc n) 95 (omega arith))
num-below (x ∷ xs) (suc n) h =
    let rest : num xs n < 95 ^ n = num-below xs n (digits-tail x xs h) in
    let here : IsDigitByte x = h 0 32 (omega arith) in
    let first : (x - 32) * 95 ^ n ≤ 94 * 95 ^ n = mul-le-mul_right (95 ^ n) (omega arith) in
    omega (arith, num-cons x xs n, pow-suc 95 n, rest, first)

-- the first n digits, and the k after them
pub num-add : (s : List ℕ) (n k : ℕ) → num s (n + k) ≡ num s n * 95 ^ k + num (drop n s) k
num-add s n zero = rw (add-zero, num-zero, pow-zero) (omega arith)
num-add s n (suc k) =
    let at : digit (drop n s) k ≡ digit s (n + k) = ap (λ b. b - 32) (get_or-drop n s k 32) in
    let rest : num s (n + k) ≡ num s n * 95 ^ k + num (drop n s) k = num-add s n k in
    rw (add-suc, num-suc s (n + k), num-suc (drop n s) k, rest, pow-suc) (omega (arith, at))

-- past the end the number grows by 95
pub num-past : (s : List ℕ) (n k : ℕ) → length s ≤ n → num s (n + k) ≡ num s n * 95 ^ k
num-past s n k h = rw (num-add, drop_of_length-le s h, num-empty) (omega arith)

-- one more digit, with the code's `+ 1`
pub num-next : (s : List ℕ) (n : ℕ) → num s (n + 1) ≡ 95 * num s n + digit s n
num-next s n = rw add-one (num-suc s n)

-- the first n digits stay where more are added after them
pub num-append : (s t : List ℕ) (n : ℕ) → n ≤ length s → num (s ++ t) n ≡ num s n
num-append s t zero h = num-zero (s ++ t) ∙ sym (num-zero s)
num-append s t (suc n) h =
    let at : digit (s ++ t) n ≡ digit s n = ap (λ b. b - 32) (get_or-append s t 32 n h) in
    omega (arith, num-suc (s ++ t) n, num-suc s n, num-append s t n (omega arith))

-- one more digit added at the end
pub num-push : (s : List ℕ) (b n : ℕ) → length s ≡ n → num (s ++ b ∷ []) (n + 1) ≡ 95 * num s n + (b - 32)
num-push s b n e =
    let at : get_or (s ++ b ∷ []) n 32 ≡ b = ap (λ j. get_or (s ++ b ∷ []) j 32) (sym e) ∙ get_or-append_seam s b [] 32 in
    omega (arith, num-next (s ++ b ∷ []) n, num-append s (b ∷ []) n (omega arith), ap (λ x. x - 32) at)
