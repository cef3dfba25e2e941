use Rattle.std.proofs.Common.{refl, ap, ◌∙◌, length, length-drop, arith}
use Rattle.std.specs.Fn.{FnReturnsAt}
use Rattle.canvas_blocks.specs.Blocks.{flat, index_of, IsEdge, IsIn}
use Rattle.canvas_blocks.proofs.Placed.{at_index, iter_answer}
use Rattle.canvas_blocks.proofs.Shifted.{carried}
use Rattle.canvas_blocks.proofs.BlockList.iter_from_edge.Goals as goal

pub new-requires-clause-most : goal.new-requires-clause-most
new-requires-clause-most g c =
    let cs = c.deref.result.now in
    let place : IsIn cs c.in-Some.block c.in-Some.offset = c.in-Some.ensures.place in
    let came = iter_answer c.self.inside.blocks.items cs c.deref.ensures.value c.args.self.now c.self.view_is _ c.in-Some.block c.in-Some.offset (at_index cs c.in-Some.block c.in-Some.offset place) c.index.result.now c.index.ensures c.deref-in-Some.result.now c.deref-in-Some.ensures.value c.deref-in-Some-2.result.now c.deref-in-Some-2.ensures.value _ refl in
    let left = ap length came ∙ length-drop (index_of cs c.in-Some.block c.in-Some.offset) c.args.self.now in
    let all = ap length c.self.view_is in
    omega (arith, left, all, c.self.invariant.len)

pub returns-in-Some : goal.returns-in-Some
returns-in-Some g c =
    let cs = c.deref.result.now in
    let place : IsIn cs c.in-Some.block c.in-Some.offset = c.in-Some.ensures.place in
    let edge : IsEdge (FnReturnsAt g.P.Fn c.args.before) (flat cs) (index_of cs c.in-Some.block c.in-Some.offset) = c.in-Some.ensures.edge in (
      index_of cs c.in-Some.block c.in-Some.offset,
      carried (FnReturnsAt g.P.Fn c.args.before) (flat cs) _ c.args.self.now _ (ap flat c.deref.ensures.value) c.self.view_is edge,
      iter_answer c.self.inside.blocks.items cs c.deref.ensures.value c.args.self.now c.self.view_is _ c.in-Some.block c.in-Some.offset (at_index cs c.in-Some.block c.in-Some.offset place) c.index.result.now c.index.ensures c.deref-in-Some.result.now c.deref-in-Some.ensures.value c.deref-in-Some-2.result.now c.deref-in-Some-2.ensures.value _ c.new.ensures,
    )
