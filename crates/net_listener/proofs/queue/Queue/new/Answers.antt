use Rattle.net_listener.proofs.QueueLemmas.{loses_none}
use Rattle.net_listener.proofs.queue.Queue.new.Goals as goal

pub returns-clause-loses_none : goal.returns-clause-loses_none
returns-clause-loses_none g c = λ n came left r run. loses_none _ c.in_ok-waiting.ensures.items n came left r run
