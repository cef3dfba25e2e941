use Rattle.canvas_pending.proofs.Waiting.{adds_first, is_counted, one_less}
use Rattle.canvas_pending.proofs.pending.Pending.pop_first.Goals as goal

pub lower-requires-clause-counted : goal.lower-requires-clause-counted
lower-requires-clause-counted g c =
    is_counted c.in-Some.change c.pop_front.new.self.items c.self.inside.changes.items (adds_first c.in-Some.change c.pop_front.new.self.items c.self.inside.changes.items c.in-Some.ensures.items) c.self.inside.tallies c.self.invariant

pub invariant_of-self : goal.invariant_of-self
invariant_of-self g c =
    one_less c.in-Some.change c.pop_front.new.self.items c.self.inside.changes.items (adds_first c.in-Some.change c.pop_front.new.self.items c.self.inside.changes.items c.in-Some.ensures.items) c.self.inside.tallies c.lower.new.tallies
    c.lower.ensures.tallies c.self.invariant c.lower.ensures.lowered
