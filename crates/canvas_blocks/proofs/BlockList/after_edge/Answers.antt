use Rattle.std.proofs.Common.{ap}
use Rattle.std.specs.Fn.{FnReturnsAt}
use Rattle.canvas_blocks.specs.Blocks.{flat, index_of, IsEdge, IsIn}
use Rattle.canvas_blocks.proofs.Placed.{at_index, get_answer}
use Rattle.canvas_blocks.proofs.Shifted.{carried}
use Rattle.canvas_blocks.proofs.BlockList.after_edge.Goals as goal

pub returns : goal.returns
returns g c =
    let cs = c.deref.result.now in
    let place : IsIn cs c.in_ok-block.block c.in_ok-block.offset = c.in_ok-block.ensures.place in
    let edge : IsEdge (FnReturnsAt g.P.Fn c.args.before) (flat cs) (index_of cs c.in_ok-block.block c.in_ok-block.offset) = c.in_ok-block.ensures.edge in (
      index_of cs c.in_ok-block.block c.in_ok-block.offset,
      carried (FnReturnsAt g.P.Fn c.args.before) (flat cs) _ c.args.self.now _ (ap flat c.deref.ensures.value) c.self.view_is edge,
      get_answer c.self.inside.blocks.items cs c.deref.ensures.value c.args.self.now c.self.view_is _ c.in_ok-block.block c.in_ok-block.offset (at_index cs c.in_ok-block.block c.in_ok-block.offset place) c.index.result.now c.index.ensures c.index-2.result.now c.index-2.ensures,
    )
