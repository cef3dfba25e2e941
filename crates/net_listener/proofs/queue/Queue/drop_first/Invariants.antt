use Rattle.std.proofs.Common.{◌≡◌, ◌≤◌, drop, length}
use Rattle.net_listener.specs.Queues.{KeepsLimits, waiting_of}
use Rattle.net_listener.proofs.queue.Queue.drop_first.Given as goal

abbrev pub invariant-loop-dropped : goal.invariant-loop-dropped
invariant-loop-dropped g l =
    record {
      limits : KeepsLimits l.fn.self l.self;
      within : l.dropped ≤ length (waiting_of l.fn.self);
      rest : waiting_of l.self ≡ drop l.dropped (waiting_of l.fn.self);
    }
