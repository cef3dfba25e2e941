use Rattle.std.proofs.Common.{◌≡◌, ◌++◌, List, length}
use Rattle.canvas_model.specs.declared.ObjId.{ObjId}
use Rattle.canvas_model.specs.Document.{Object}
use Rattle.canvas_doc.proofs.rows.same_rows.Given as goal

abbrev pub invariant-loop-row : goal.invariant-loop-row
invariant-loop-row g l = (done : List (ObjId × Object)) × (done ++ l.rest ≡ l.rows) × (done ++ l.other_rest ≡ l.others)

abbrev pub decreases-loop-row : goal.decreases-loop-row
decreases-loop-row g l = length l.rest
