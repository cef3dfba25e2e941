use Rattle.std.proofs.Common.{◌≡◌, drop}
use Rattle.canvas_pending.proofs.pending.Pending.drop_first.Given as goal

abbrev pub invariant-loop : goal.invariant-loop
invariant-loop g l = l.self ≡ drop l.counter l.fn.self
