use Rattle.std.proofs.Common.{◌≡◌, ◌≤◌, length, ap, subst, ◌∙◌, arith}
use Rattle.std.specs.Fn.{FnReturnsAt}
use Rattle.canvas_blocks.specs.Blocks.{flat, index_at, index_of, moved, IsEdge}
use Rattle.canvas_blocks.proofs.Shifted.{carried, moved_past}
use Rattle.canvas_blocks.proofs.BlockList.move_to_edge.Goals as goal

pub returns-in-Some : goal.returns-in-Some
returns-in-Some g c =
    let rs = c.room_at-to.new.blocks.items in
    let ss = c.deref.result.now in
    let from = c.in-Some.from in
    let j = index_at rs c.room_at-to.result in
    let now : flat rs ≡ c.args.self.now = c.room_at-to.ensures.items ∙ c.self.view_is in
    let at : index_of ss from.0 from.1 ≡ index_of rs from.0 from.1 = ap (λ bs. index_of bs from.0 from.1) c.deref.ensures.value in
    let edge : IsEdge (FnReturnsAt g.P.Fn c.args.from) (flat ss) (index_of ss from.0 from.1) = c.in-Some.ensures.edge in (
      index_of rs from.0 from.1,
      j,
      subst (IsEdge (FnReturnsAt g.P.Fn c.args.from) c.args.self.now) at (carried (FnReturnsAt g.P.Fn c.args.from) (flat ss) (flat rs) c.args.self.now _ (ap flat c.deref.ensures.value) now edge),
      subst (λ l. IsEdge (FnReturnsAt g.Q.Fn c.args.to) l j) c.self.view_is c.room_at-to.ensures.edge,
      c.move_in.ensures.items ∙ ap (λ l. moved l (index_of rs from.0 from.1) j c.args.item) now,
    )

pub returns : goal.returns
returns g c =
    let rs = c.room_at-to.new.blocks.items in
    let ss = c.deref.result.now in
    let j = index_at rs c.room_at-to.result in
    let now : flat rs ≡ c.args.self.now = c.room_at-to.ensures.items ∙ c.self.view_is in
    let same : length (flat ss) ≡ length c.args.self.now = ap (λ bs. length (flat bs)) c.deref.ensures.value ∙ ap length now in
    let past : length c.args.self.now ≤ length (flat ss) = omega (arith, same) in
    let edge : IsEdge (FnReturnsAt g.P.Fn c.args.from) (flat ss) (length (flat ss)) = c.in_default.ensures.edge in (
      length (flat ss),
      j,
      carried (FnReturnsAt g.P.Fn c.args.from) (flat ss) (flat rs) c.args.self.now _ (ap flat c.deref.ensures.value) now edge,
      subst (λ l. IsEdge (FnReturnsAt g.Q.Fn c.args.to) l j) c.self.view_is c.room_at-to.ensures.edge,
      now ∙ moved_past c.args.self.now (length (flat ss)) j c.args.item past,
    )
