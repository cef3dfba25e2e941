use Rattle.std.proofs.Common.{◌<◌, ◌∙◌, arith, length}
use Rattle.net_listener.specs.Queues.{waiting_of}
use Rattle.net_listener.proofs.QueueLemmas.{dropped_more, due_more}
use Rattle.net_listener.proofs.queue.Queue.drop_due.Goals as goal

pub loop-dropped-preserved : goal.loop-dropped-preserved
loop-dropped-preserved g c =
    let ws = waiting_of c.args.self.now in
    let more =
    dropped_more ws (waiting_of c.loop-dropped.self) (waiting_of c.pop_due.new.self) c.loop-dropped.dropped c.in-Some._first
    c.loop-dropped.invariant.rest c.in-Some.ensures.ends.1 in
    let below : c.loop-dropped.dropped < length ws = omega (arith, more.1) in
    record {
      limits = (c.in-Some.ensures.limits.0 ∙ c.loop-dropped.invariant.limits.0, c.in-Some.ensures.limits.1 ∙ c.loop-dropped.invariant.limits.1);
      within = more.1;
      rest = more.0;
      due =
          due_more ws (waiting_of c.loop-dropped.self) c.loop-dropped.dropped c.args.now c.in-Some._first below c.loop-dropped.invariant.rest (waiting_of c.pop_due.new.self)
          c.in-Some.ensures.ends.1 c.in-Some.ensures.ends.0 c.loop-dropped.invariant.due;
    }
