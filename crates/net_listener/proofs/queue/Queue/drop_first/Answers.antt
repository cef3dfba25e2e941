use Rattle.std.proofs.Common.{◌∙◌}
use Rattle.net_listener.specs.Queues.{waiting_of}
use Rattle.net_listener.proofs.QueueLemmas.{dropped_more}
use Rattle.net_listener.proofs.queue.Queue.drop_first.Goals as goal

pub loop-dropped-preserved : goal.loop-dropped-preserved
loop-dropped-preserved g c =
    let more =
    dropped_more (waiting_of c.args.self.now) (waiting_of c.loop-dropped.self) (waiting_of c.pop_first.new.self) c.loop-dropped.dropped c.in-Some._first
    c.loop-dropped.invariant.rest c.in-Some.ensures.first in
    record {
      limits = (c.in-Some.ensures.limits.0 ∙ c.loop-dropped.invariant.limits.0, c.in-Some.ensures.limits.1 ∙ c.loop-dropped.invariant.limits.1);
      within = more.1;
      rest = more.0;
    }
