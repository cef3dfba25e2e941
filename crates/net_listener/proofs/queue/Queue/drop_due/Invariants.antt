use Rattle.std.proofs.Common.{◌≡◌, ◌≤◌, All, drop, length, take}
use Rattle.net_listener.specs.Queues.{KeepsLimits, waiting_of}
use Rattle.net_listener.proofs.queue.Queue.drop_due.Given as goal

abbrev pub invariant-loop-dropped : goal.invariant-loop-dropped
invariant-loop-dropped g l =
    record {
      limits : KeepsLimits l.fn.self l.self;
      within : l.dropped ≤ length (waiting_of l.fn.self);
      rest : waiting_of l.self ≡ drop l.dropped (waiting_of l.fn.self);
      due : All (λ w. w.until ≤ l.now) (take l.dropped (waiting_of l.fn.self));
    }
