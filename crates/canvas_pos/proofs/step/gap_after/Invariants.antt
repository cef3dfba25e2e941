use Rattle.std.proofs.Common.{Some, None}
use Rattle.canvas_pos.specs.Ends.{IsNarrow}
use Rattle.canvas_pos.proofs.step.gap_after.Given as goal

-- nothing lies behind it so far
abbrev pub invariant-loop-i : goal.invariant-loop-i
invariant-loop-i l = IsNarrow (Some l.last) None l.i
