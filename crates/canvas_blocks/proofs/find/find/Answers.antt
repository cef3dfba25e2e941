use Rattle.std.proofs.Common.{Vec, get_or, ◌≡◌, ◌-◌, ◌<◌, suc, length, take, drop, refl, sym, ap, subst, ◌∙◌, arith}
use Rattle.std.proofs.lemmas.List.{get_or_default, take_rest}
use Rattle.std.specs.Fn.{FnReturnsAt}
use Rattle.canvas_blocks.specs.Blocks.{flat, IsEdge}
use Rattle.canvas_blocks.proofs.Placed.{edge_at_start, edge_answer, fits}
use Rattle.canvas_blocks.proofs.Sized.{upto_next}
use Rattle.canvas_blocks.proofs.find.find.Goals as goal

pub returns-then-end-eq0-clause-edge : goal.returns-then-end-eq0-clause-edge
returns-then-end-eq0-clause-edge g c =
    subst (IsEdge (FnReturnsAt g.P.Fn c.args.before.now) (flat c.args.blocks.now)) (sym c.first_of.ensures.index)
    (edge_at_start c.args.blocks.now c.args.blocks.now refl _ refl (FnReturnsAt g.P.Fn c.args.before.now) c.requires.none_empty c.block_edge-end.result c.block_edge-end.ensures.before c.block_edge-end.ensures.after c.if-end-eq0.true)

pub returns-then-offset-len-clause-edge : goal.returns-then-offset-len-clause-edge
returns-then-offset-len-clause-edge g c =
    edge_answer c.args.blocks.now c.args.blocks.now refl _ refl (FnReturnsAt g.P.Fn c.args.before.now) c.requires.none_empty c.block_edge-end.result c.block_edge-end.ensures.before c.block_edge-end.ensures.after (omega arith) c.block_edge-end.ensures.bound
    c.index-blocks-block.result c.index-blocks-block.is _ (take_rest c.deref.result.now 1 ∙ ap (drop 1) c.deref.ensures.value) c.edge-offset.result c.edge-offset.ensures _ refl

pub returns-clause-edge : goal.returns-clause-edge
returns-clause-edge g c =
    let pos : 0 < c.block_edge-end.result = omega arith in
    let v = c.index-blocks-block.result in
    let within = fits c.args.blocks.now c.args.blocks.now refl _ refl (FnReturnsAt g.P.Fn c.args.before.now) c.requires.none_empty c.block_edge-end.result c.block_edge-end.ensures.before c.block_edge-end.ensures.after pos c.block_edge-end.ensures.bound
    v c.index-blocks-block.is _ (take_rest c.deref.result.now 1 ∙ ap (drop 1) c.deref.ensures.value) c.edge-offset.result c.edge-offset.ensures in
    let all = upto_next c.args.blocks.now (c.block_edge-end.result - 1) v (omega (arith, c.block_edge-end.ensures.bound)) in
    let again = c.index-blocks-block-2.result in
    let one : again ≡ v = c.index-blocks-block-2.is ∙ get_or_default c.args.blocks.now (c.block_edge-end.result - 1) again v (omega (arith, c.block_edge-end.ensures.bound)) ∙ sym c.index-blocks-block.is in
    let read : length again.items ≡ length v.items = ap (λ (u : Vec g.row.T.Denot g.row.A.Denot). length u.items) one in
    let stands : length v.items ≡ length (get_or c.args.blocks.now (c.block_edge-end.result - 1) v).items = ap (λ (u : Vec g.row.T.Denot g.row.A.Denot). length u.items) c.index-blocks-block.is in
    let long : c.len.result ≡ length again.items = c.len.ensures ∙ again.ok.0 in
    let next : suc (c.block_edge-end.result - 1) ≡ c.block_edge-end.result = omega arith in
    subst (IsEdge (FnReturnsAt g.P.Fn c.args.before.now) (flat c.args.blocks.now)) (sym c.first_of-2.ensures.index)
    (edge_answer c.args.blocks.now c.args.blocks.now refl _ refl (FnReturnsAt g.P.Fn c.args.before.now) c.requires.none_empty c.block_edge-end.result c.block_edge-end.ensures.before c.block_edge-end.ensures.after pos c.block_edge-end.ensures.bound
    v c.index-blocks-block.is _ (take_rest c.deref.result.now 1 ∙ ap (drop 1) c.deref.ensures.value) c.edge-offset.result c.edge-offset.ensures _ (omega (arith, within, all, long, read, stands, c.if-offset-len.false) ∙ ap (λ k. length (flat (take k c.args.blocks.now))) next))
