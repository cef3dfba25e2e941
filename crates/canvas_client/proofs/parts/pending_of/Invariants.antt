use Rattle.std.proofs.Common.{◌≡◌}
use Rattle.canvas_client.proofs.parts.pending_of.Given as goal

-- the first edits wait
abbrev pub invariant-loop-change : goal.invariant-loop-change
invariant-loop-change g l = l.pending ≡ l.yielded
