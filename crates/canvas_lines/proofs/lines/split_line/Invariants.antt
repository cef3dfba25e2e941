use Rattle.canvas_lines.proofs.Splitting.{NoFeedBelow}
use Rattle.canvas_lines.proofs.lines.split_line.Given as goal

abbrev pub invariant-loop-at : goal.invariant-loop-at
invariant-loop-at l = NoFeedBelow l.rest l.at
