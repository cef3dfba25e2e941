-- The first digits of positions, which tell most of them apart.
use Rattle.std.specs.Prelude.{ℕ, ◌<◌, List}
use Rattle.canvas_model.specs.Position.{IsPosition, num}
use Rattle.canvas_model.specs.Order.{IsBefore}

-- the number that the first nine digits are, in base 95
abbrev pub first_digits : List ℕ → ℕ
first_digits s = num s 9

-- of two positions, the one whose first digits are the lesser number is before the other
abbrev pub FirstDigitsDecide : Type 0
FirstDigitsDecide = (s t : List ℕ) → IsPosition s → IsPosition t → first_digits s < first_digits t → IsBefore s t
