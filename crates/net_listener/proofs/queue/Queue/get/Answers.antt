use Rattle.net_listener.proofs.QueueLemmas.{found_at, found_nowhere}
use Rattle.net_listener.proofs.queue.Queue.get.Goals as goal

pub returns-in-Some : goal.returns-in-Some
returns-in-Some g c =
    found_at c.args.self.now.waiting.items c.args.number c.place_of.result c.in-Some.waiting.now c.place_of.ensures c.in-Some.ensures.item.3.0 c.in-Some.ensures.lookup

pub returns-in-None : goal.returns-in-None
returns-in-None g c = found_nowhere c.args.self.now.waiting.items c.args.number c.place_of.result c.place_of.ensures c.in-None.ensures.item.3
