-- Numbers in decimal digits.
use Rattle.std.specs.Prelude.{ℕ, zero, suc, ◌+◌, ◌-◌, ◌*◌, ◌/◌, ◌%◌, ◌^◌, Bool, ◌&&◌, nat_lt, List, [], ◌∷◌, ◌++◌, length, Option, Some, None, if◌then◌else◌}
use Rattle.std.specs.List.{list_all}
use Rattle.std.specs.Char.{is_ascii_digit}

-- the last so many decimal digits of a number, the highest first
abbrev pub digits : ℕ → ℕ → List ℕ
digits zero n = []
digits (suc count) n = digits count (n / 10) ++ (48 + n % 10) ∷ []

-- the last ten decimal digits of a number
unfoldable pub ten_digits : ℕ → List ℕ
ten_digits n = digits 10 n

-- the number that digits stand for, behind others that stand for this one
abbrev pub read_on : ℕ → List ℕ → ℕ
read_on so_far [] = so_far
read_on so_far (b ∷ bs) = read_on (so_far * 10 + (b - 48)) bs

-- digits, one or more
abbrev pub are_digits : List ℕ → Bool
are_digits text = nat_lt 0 (length text) && list_all is_ascii_digit text

-- the number of such digits, where it is below 2 ^ 63
unfoldable pub whole_of : List ℕ → Option ℕ
whole_of text = if are_digits text && nat_lt (read_on 0 text) (2 ^ 63) then Some (read_on 0 text) else None
