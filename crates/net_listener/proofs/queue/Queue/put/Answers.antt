use Rattle.std.proofs.Common.{arith}
use Rattle.net_listener.proofs.QueueLemmas.{length_put, ordered_put}
use Rattle.net_listener.proofs.queue.Queue.put.Goals as goal

pub invariant_of-self-clause-roomy : goal.invariant_of-self-clause-roomy
invariant_of-self-clause-roomy g c = omega (arith, c.args.self.now.roomy, c.push_back_reserved.ensures.capacity, c.pop_front.ensures.capacity)

pub invariant_of-self-clause-within : goal.invariant_of-self-clause-within
invariant_of-self-clause-within g c =
    omega (arith, c.args.self.now.within, length_put c.args.self.now.waiting.items c.push_back_reserved.new.self.items c.pop_front.new.self.items _ c.push_back_reserved.ensures.items c.pop_front.ensures.rest)

pub invariant_of-self-clause-ordered : goal.invariant_of-self-clause-ordered
invariant_of-self-clause-ordered g c =
    ordered_put c.args.self.now.waiting.items c.push_back_reserved.new.self.items c.pop_front.new.self.items _ c.push_back_reserved.ensures.items c.pop_front.ensures.rest
    c.args.self.now.ordered (omega (arith, c.max-until.ensures, c.last_until.ensures))
