-- So many were taken from the front, and the rest waits.
use Rattle.std.proofs.Common.{◌≡◌, ◌+◌, length}
use Rattle.net_outbox.specs.Giving.{Gives}
use Rattle.net_outbox.proofs.outbox.give.Given as goal

abbrev pub invariant-loop-left : goal.invariant-loop-left
invariant-loop-left g l = record {
  counted : l.count + l.left ≡ l.whole;
  waits : l.left ≡ length l.unsent;
  gives : Gives (g.S.Write.contents l.initial.stream) (g.S.Write.contents l.stream) l.count l.initial.unsent l.unsent;
}

abbrev pub decreases-loop-left : goal.decreases-loop-left
decreases-loop-left g l = l.left
