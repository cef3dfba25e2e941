use Rattle.std.proofs.Common.{◌≡◌, replicate}
use Rattle.canvas_board.proofs.opening.read.Given as goal

abbrev pub invariant-loop : goal.invariant-loop
invariant-loop g l = l.ends.items ≡ replicate l.counter l.front
