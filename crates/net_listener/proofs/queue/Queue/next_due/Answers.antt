use Rattle.std.proofs.Common.{arith}
use Rattle.std.proofs.lemmas.List.{nil_from_length}
use Rattle.net_listener.proofs.QueueLemmas.{next_is_least}
use Rattle.net_listener.proofs.queue.Queue.next_due.Goals as goal

pub returns-in-Some : goal.returns-in-Some
returns-in-Some g c = next_is_least c.args.self.now.waiting.items c.in-Some.first.now c.in-Some.ensures.item.3.0 c.in-Some.ensures.lookup c.args.self.now.ordered

pub returns-in-None : goal.returns-in-None
returns-in-None g c = nil_from_length c.args.self.now.waiting.items (omega (arith, c.in-None.ensures.item.3))
