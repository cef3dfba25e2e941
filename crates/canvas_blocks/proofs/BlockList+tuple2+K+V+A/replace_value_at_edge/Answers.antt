use Rattle.std.proofs.Common.{◌≡◌, ◌≤◌, ◌∙◌, length, ap, subst, arith}
use Rattle.std.specs.Fn.{FnReturnsAt}
use Rattle.std.specs.List.{slice_get}
use Rattle.std.specs.Option.{option_map}
use Rattle.canvas_blocks.specs.Blocks.{flat, index_of, with_value, IsEdge}
use Rattle.canvas_blocks.proofs.Shifted.{carried, no_value, none_set}
use Rattle.canvas_blocks.proofs.BlockList+tuple2+K+V+A.replace_value_at_edge.Goals as goal

pub returns-in_err-block : goal.returns-in_err-block
returns-in_err-block g c =
    let cs = c.deref.result.now in
    let same : length (flat cs) ≡ length c.args.self.now = ap (λ bs. length (flat bs)) c.deref.ensures.value ∙ ap length c.self.view_is in
    let past : length c.args.self.now ≤ length (flat cs) = omega (arith, same) in
    let edge : IsEdge (FnReturnsAt g.P.Fn c.args.before) (flat cs) (length (flat cs)) = c.in_err-block.ensures.edge in (
      length (flat cs),
      carried (FnReturnsAt g.P.Fn c.args.before) (flat cs) _ c.args.self.now _ (ap flat c.deref.ensures.value) c.self.view_is edge,
      c.from_residual.ensures ∙ no_value c.args.self.now (length (flat cs)) c.args.value past,
      none_set c.args.self.now (length (flat cs)) c.args.value past,
    )

pub returns : goal.returns
returns g c =
    let cs = c.deref.result.now in
    let bs = c.self.inside.blocks.items in
    let edge : IsEdge (FnReturnsAt g.P.Fn c.args.before) (flat cs) (index_of cs c.in_ok-block.block c.in_ok-block.offset) = c.in_ok-block.ensures.edge in
    let at : index_of cs c.in_ok-block.block c.in_ok-block.offset ≡ index_of bs c.in_ok-block.block c.in_ok-block.offset = ap (λ bs. index_of bs c.in_ok-block.block c.in_ok-block.offset) c.deref.ensures.value in (
      index_of bs c.in_ok-block.block c.in_ok-block.offset,
      subst (IsEdge (FnReturnsAt g.P.Fn c.args.before) c.args.self.now) at (carried (FnReturnsAt g.P.Fn c.args.before) (flat cs) _ c.args.self.now _ (ap flat c.deref.ensures.value) c.self.view_is edge),
      c.replace_value.ensures.value ∙ ap (λ l. option_map (λ pair. pair.1) (slice_get l (index_of c.self.inside.blocks.items c.in_ok-block.block c.in_ok-block.offset))) c.self.view_is,
      c.replace_value.ensures.items ∙ ap (λ l. with_value l (index_of c.self.inside.blocks.items c.in_ok-block.block c.in_ok-block.offset) c.args.value) c.self.view_is,
    )
