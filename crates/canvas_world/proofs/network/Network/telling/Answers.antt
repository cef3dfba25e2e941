use Rattle.std.proofs.Common.{refl, sym, ◌∙◌}
use Rattle.canvas_world.proofs.Posts.{tells_at, tells_late_at, tells_passed_at}
use Rattle.canvas_world.proofs.network.Network.telling.Goals as goal

pub returns-in_default-pop : goal.returns-in_default-pop
returns-in_default-pop g c =
    let tail = rw c.in-Some-2.is at c.in_ok-tail.ensures in
    tells_late_at _ c.args.self.now _ c.args.v c.args.k _ _ _ c.self.invariant.good c.self.view_is c.self.invariant.serves c.in-Some.ensures c.deref.ensures.value c.if-v-eq0.false tail (sym c.in-Some-2.tail.ok.0 ∙ c.in_default-pop.ensures.cases.0)

pub returns : goal.returns
returns g c =
    let tail = rw c.in-Some-2.is at c.in_ok-tail.ensures in
    tells_at _ c.args.self.now _ c.args.v c.args.k _ _ _ _ _ _ c.self.view_is c.self.invariant.serves c.in-Some.ensures c.deref.ensures.value c.if-v-eq0.false tail c.in-Some-pop.ensures.items refl

pub returns-in_default-2 : goal.returns-in_default-2
returns-in_default-2 g c =
    let none = rw c.in_default-2.is at c.in_ok-tail.ensures in
    tells_passed_at _ c.args.self.now _ c.args.v c.args.k _ _ c.self.view_is c.self.invariant.serves c.in-Some.ensures c.deref.ensures.value c.if-v-eq0.false none
