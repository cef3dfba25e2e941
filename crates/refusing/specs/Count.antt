-- Which of all growths is refused.
use Rattle.std.specs.Prelude.{◌≡◌, ◌↔◌, ◌-◌, ◌==◌, ℕ, zero, suc, Bool, true}

-- what is left of the count after one more growth, and whether that growth is refused
abbrev pub grown : ℕ → ℕ × Bool
grown left = (left - 1, left == 1)

-- what is left of the count after so many growths
abbrev pub left_after : ℕ → ℕ → ℕ
left_after number zero = number
left_after number (suc n) = (grown (left_after number n)).0

-- the growth that comes after n others is refused exactly where it is the one of that number, the first being 1
abbrev pub RefusesThatOne : Type 0
RefusesThatOne = (number n : ℕ) → ((grown (left_after number n)).1 ≡ true) ↔ (number ≡ suc n)
