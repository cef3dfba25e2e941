use Rattle.std.proofs.Common.{◌≡◌, ◌++◌, length}
use Rattle.canvas_doc.proofs.spots.copy_spots.Given as goal

abbrev pub invariant-loop-spot : goal.invariant-loop-spot
invariant-loop-spot g l = l.copies ++ l.rest ≡ l.spots

abbrev pub decreases-loop-spot : goal.decreases-loop-spot
decreases-loop-spot g l = length l.rest
