-- The ends of a gap between positions, and where the gap is wide enough for another.
use Rattle.std.specs.Prelude.{◌≡◌, ℕ, ◌+◌, ◌-◌, ◌*◌, ◌/◌, ◌^◌, ◌<◌, min, List, length, Option, Some, None, IfSome}
use Rattle.canvas_model.specs.Position.{IsPosition, num}
use Rattle.canvas_model.specs.Middle.{LiesBetween, IsShut, IsLeast, IsGreatest}

-- an end that is there is a position
abbrev pub IsEnd : Option (List ℕ) → Type 0
IsEnd end = IfSome end IsPosition

-- how many digits an end has
abbrev pub end_length : Option (List ℕ) → ℕ
end_length None = 0
end_length (Some s) = length s

-- the greatest m for which m / 95^n isn't greater than the lower end
abbrev pub greatest_before : Option (List ℕ) → ℕ → ℕ
greatest_before None n = 0
greatest_before (Some s) n = num s n

-- the least m for which m / 95^n isn't less than the upper end
abbrev pub least_after : Option (List ℕ) → ℕ → ℕ
least_after None n = 95 ^ n
least_after (Some t) n = num t n + min 1 (length t - n)

-- at n digits the ends are next to each other, and nothing shorter lies between them
pub record IsNarrow (lo hi : Option (List ℕ)) (n : ℕ) : Type 0 where
  pub shut : (k : ℕ) → k < n → IsShut lo hi k
  pub next : least_after hi n ≡ greatest_before lo n + 1

-- something lies between the ends first at `before + 1` digits, and what is half way there ends in `last`
pub record Opens (lo hi : Option (List ℕ)) (before last : ℕ) : Type 0 where
  pub shut : (k : ℕ) → k < before + 1 → IsShut lo hi k
  pub least : ℕ
  pub greatest : ℕ
  pub is_least : IsLeast (LiesBetween lo hi (before + 1)) least
  pub is_greatest : IsGreatest (LiesBetween lo hi (before + 1)) greatest
  pub half_way : 95 * greatest_before lo before + last ≡ (least + greatest) / 2
