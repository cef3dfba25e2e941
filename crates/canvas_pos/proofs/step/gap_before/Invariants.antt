use Rattle.std.proofs.Common.{Some, None}
use Rattle.canvas_pos.specs.Ends.{IsNarrow}
use Rattle.canvas_pos.proofs.step.gap_before.Given as goal

-- nothing lies before it so far
abbrev pub invariant-loop-i : goal.invariant-loop-i
invariant-loop-i l = IsNarrow None (Some l.first) l.i
