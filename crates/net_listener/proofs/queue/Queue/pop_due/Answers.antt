use Rattle.std.proofs.Common.{ap, arith, length, length-drop}
use Rattle.net_listener.proofs.QueueLemmas.{ordered_rest}
use Rattle.net_listener.proofs.queue.Queue.pop_due.Goals as goal

pub invariant_of-self-clause-roomy : goal.invariant_of-self-clause-roomy
invariant_of-self-clause-roomy g c = omega (arith, c.args.self.now.roomy, c.pop_front.ensures.capacity)

pub invariant_of-self-clause-within : goal.invariant_of-self-clause-within
invariant_of-self-clause-within g c =
    omega (arith, c.args.self.now.within, ap length c.pop_front.ensures.rest, length-drop 1 c.args.self.now.waiting.items)

pub invariant_of-self-clause-ordered : goal.invariant_of-self-clause-ordered
invariant_of-self-clause-ordered g c = ordered_rest c.args.self.now.waiting.items c.pop_front.new.self.items c.pop_front.ensures.rest c.args.self.now.ordered
