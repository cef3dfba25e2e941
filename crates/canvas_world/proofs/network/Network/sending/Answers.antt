use Rattle.std.proofs.Common.{length, inl, inr, ap, arith}
use Rattle.canvas_model.specs.World.{Node}
use Rattle.canvas_world.proofs.Posts.{sends_nothing_at}
use Rattle.canvas_world.proofs.network.Network.sending.Goals as goal
use Rattle.canvas_world.proofs.network.Network.sending.Goals.{then-i-eq0-via-then-i-eq0, then-i-eq0-via-else-i-eq0+then-i-unacknowledged}

pub returns-then-i-eq0 : goal.returns-then-i-eq0
returns-then-i-eq0 g c =
    sends_nothing_at _ c.args.self.now c.args.k c.args.i _ _ c.self.view_is c.in-Some.ensures c.deref.ensures.value
    (elim c.then-i-eq0.branch [
      | then-i-eq0-via-then-i-eq0 w ↦ inl w.if-i-eq0.true
      | then-i-eq0-via-else-i-eq0+then-i-unacknowledged w ↦ inr (let seen = ap (λ (n : Node). length n.client.waiting) c.node.view_is in let many = w.if-i-unacknowledged.true in let count = w.unacknowledged.ensures in omega (arith, seen, many, count))
    ])
