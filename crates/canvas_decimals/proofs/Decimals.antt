-- Ten digits are read as the number whose digits they are.
use Rattle.std.proofs.Common.{◌≡◌, ◌<◌, ℕ, zero, suc, ◌+◌, ◌-◌, ◌*◌, ◌/◌, ◌%◌, ◌^◌, List, [], ◌∷◌, ◌++◌, length, length-append, refl, sym, ◌∙◌, ap, arith}
use native.Mathlib.Numerals.{unary_clauses}
use Rattle.canvas_decimals.specs.Decimals.{digits, read_on, ten_digits}

read_append : (so_far : ℕ) (xs : List ℕ) (b : ℕ) → read_on so_far (xs ++ b ∷ []) ≡ read_on so_far xs * 10 + (b - 48)
read_append so_far [] b = refl
read_append so_far (x ∷ xs) b = read_append (so_far * 10 + (x - 48)) xs b

-- the digits of a number are read as that number
read_digits : (count n : ℕ) → n < 10 ^ count → read_on 0 (digits count n) ≡ n
read_digits zero n less = omega arith
read_digits (suc count) n less =
    let up : 10 ^ suc count ≡ 10 ^ count * 10 = simp unary_clauses in
    let high = read_digits count (n / 10) (omega (arith, up)) in
    read_append 0 (digits count (n / 10)) (48 + n % 10) ∙ omega (arith, high)

pub read_ten : (n : ℕ) → n < 10 ^ 10 → read_on 0 (ten_digits n) ≡ n
unfolding ten_digits
read_ten n less = read_digits 10 n less

long : (count n : ℕ) → length (digits count n) ≡ count
long zero n = refl
long (suc count) n = omega (arith, length-append (digits count (n / 10)) ((48 + n % 10) ∷ []), long count (n / 10))

pub long_ten : (n : ℕ) → length (ten_digits n) ≡ 10
unfolding ten_digits
long_ten n = long 10 n

-- ten digits are those of one number
pub ten_one : (n m : ℕ) → n < 10 ^ 10 → m < 10 ^ 10 → ten_digits n ≡ ten_digits m → n ≡ m
ten_one n m n_less m_less e = sym (read_ten n n_less) ∙ ap (read_on 0) e ∙ read_ten m m_less
