-- The count of a client's changes.
use Rattle.std.specs.Prelude.{ℕ, ◌+◌}
use Rattle.canvas_client.specs.declared.merged.Merged.{Merged}

-- the changes of the view and of the counts of what waits
abbrev pub changes_of : {A : Type 0} → Merged A → ℕ
changes_of m = m.shown.changes.count + m.counted.count
