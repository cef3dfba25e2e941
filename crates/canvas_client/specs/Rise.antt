-- How many changes an entry makes of a client.
use Rattle.std.specs.Prelude.{◌≡◌, ℕ, ◌+◌, ◌≤◌, length}
use Rattle.canvas_model.specs.Verdict.{Outcome, Removed}

-- how many ids the outcome removes
abbrev pub removed : Outcome → ℕ
removed (Removed ids) = length ids
removed _ = 0

-- the count rose by n, which is at most so much
abbrev pub IsRise : ℕ → ℕ → ℕ → ℕ → Type 0
IsRise most old new n = (new ≡ old + n) × (n ≤ most)
