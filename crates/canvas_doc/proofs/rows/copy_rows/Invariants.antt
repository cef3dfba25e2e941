use Rattle.std.proofs.Common.{◌≡◌, ◌++◌, length}
use Rattle.canvas_doc.proofs.rows.copy_rows.Given as goal

abbrev pub invariant-loop-row : goal.invariant-loop-row
invariant-loop-row g l = l.copies ++ l.rest ≡ l.rows

abbrev pub decreases-loop-row : goal.decreases-loop-row
decreases-loop-row g l = length l.rest
