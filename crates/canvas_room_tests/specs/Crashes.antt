-- What crashes leave from some moment on.
use Rattle.std.specs.Prelude.{ℕ, ◌≤◌}
use Rattle.canvas_shelf.specs.Disk.{Content}

-- each crash from some moment on that isn't later than this one leaves what has P
abbrev pub IsLeftFrom : ℕ → (ℕ → Content → Type 0) → (Content → Type 0) → Type 0
IsLeftFrom now left_since P = (from : ℕ) × (from ≤ now) × ((left : Content) → left_since from left → P left)
