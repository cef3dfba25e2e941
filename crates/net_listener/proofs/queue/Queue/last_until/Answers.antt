use Rattle.std.proofs.Common.{refl}
use Rattle.net_listener.proofs.QueueLemmas.{last_until-at, last_until-none}
use Rattle.net_listener.proofs.queue.Queue.last_until.Goals as goal

pub returns-in-Some : goal.returns-in-Some
returns-in-Some g c =
    last_until-at c.args.self.now.waiting.items c.args.self.now.waiting.len c.in-Some.last.now c.args.self.now.waiting.ok.0 (c.in-Some.ensures.variant.0 refl) c.in-Some.ensures.lookup

pub returns-in-None : goal.returns-in-None
returns-in-None g c = last_until-none c.args.self.now.waiting.items c.in-None.ensures.item.3
