use Rattle.std.proofs.Common.{◌≡◌, ◌≤◌, ◌∙◌, Some, length, sym, ap, subst, arith}
use Rattle.std.specs.Fn.{FnReturnsAt}
use Rattle.std.specs.List.{remove, slice_get}
use Rattle.std.proofs.lemmas.List.Edits.{length-remove}
use Rattle.std.proofs.lemmas.Option.{slice_get-get_or}
use Rattle.canvas_blocks.specs.Blocks.{flat, index_of, IsEdge, IsIn}
use Rattle.canvas_blocks.proofs.Shifted.{carried, got_past, removed_past}
use Rattle.canvas_blocks.proofs.Sized.{index_within}
use Rattle.canvas_blocks.proofs.BlockList.remove_at_edge.Goals as goal

pub returns-in_err-block : goal.returns-in_err-block
returns-in_err-block g c =
    let cs = c.deref.result.now in
    let same : length (flat cs) ≡ length c.args.self.now = ap (λ bs. length (flat bs)) c.deref.ensures.value ∙ ap length c.self.view_is in
    let past : length c.args.self.now ≤ length (flat cs) = omega (arith, same) in
    let edge : IsEdge (FnReturnsAt g.P.Fn c.args.before) (flat cs) (length (flat cs)) = c.in_err-block.ensures.edge in (
      length (flat cs),
      carried (FnReturnsAt g.P.Fn c.args.before) (flat cs) _ c.args.self.now _ (ap flat c.deref.ensures.value) c.self.view_is edge,
      c.from_residual.ensures ∙ got_past c.args.self.now (length (flat cs)) past,
      removed_past c.args.self.now (length (flat cs)) past,
    )

pub overflow_sub-self : goal.overflow_sub-self
overflow_sub-self g c =
    let there : IsIn c.self.inside.blocks.items c.in_ok-block.block c.in_ok-block.offset = subst (λ bs. IsIn bs c.in_ok-block.block c.in_ok-block.offset) c.deref.ensures.value c.in_ok-block.ensures.place in
    let within = index_within c.self.inside.blocks.items c.in_ok-block.block c.in_ok-block.offset there in
    omega (arith, within, c.self.invariant.len)

pub invariant_of-self : goal.invariant_of-self
invariant_of-self g c =
    let bs = c.self.inside.blocks.items in
    let there : IsIn bs c.in_ok-block.block c.in_ok-block.offset = subst (λ bs. IsIn bs c.in_ok-block.block c.in_ok-block.offset) c.deref.ensures.value c.in_ok-block.ensures.place in
    let within = index_within bs c.in_ok-block.block c.in_ok-block.offset there in
    let less = length-remove (flat bs) (index_of bs c.in_ok-block.block c.in_ok-block.offset) within in
    let now = ap length c.take.ensures.items in
    record {
      len = omega (arith, within, less, now, c.self.invariant.len);
      fits = omega (arith, c.self.invariant.fits);
      none_empty = c.take.ensures.none_empty;
    }

pub returns : goal.returns
returns g c =
    let cs = c.deref.result.now in
    let bs = c.self.inside.blocks.items in
    let place : IsIn cs c.in_ok-block.block c.in_ok-block.offset = c.in_ok-block.ensures.place in
    let there : IsIn bs c.in_ok-block.block c.in_ok-block.offset = subst (λ bs. IsIn bs c.in_ok-block.block c.in_ok-block.offset) c.deref.ensures.value place in
    let edge : IsEdge (FnReturnsAt g.P.Fn c.args.before) (flat cs) (index_of cs c.in_ok-block.block c.in_ok-block.offset) = c.in_ok-block.ensures.edge in
    let within = index_within bs c.in_ok-block.block c.in_ok-block.offset there in
    let at : index_of cs c.in_ok-block.block c.in_ok-block.offset ≡ index_of bs c.in_ok-block.block c.in_ok-block.offset = ap (λ bs. index_of bs c.in_ok-block.block c.in_ok-block.offset) c.deref.ensures.value in (
      index_of bs c.in_ok-block.block c.in_ok-block.offset,
      subst (IsEdge (FnReturnsAt g.P.Fn c.args.before) c.args.self.now) at (carried (FnReturnsAt g.P.Fn c.args.before) (flat cs) _ c.args.self.now _ (ap flat c.deref.ensures.value) c.self.view_is edge),
      ap Some c.take.ensures.item ∙ sym (slice_get-get_or (flat bs) (index_of bs c.in_ok-block.block c.in_ok-block.offset) c.take.result within) ∙ ap (λ l. slice_get l (index_of c.self.inside.blocks.items c.in_ok-block.block c.in_ok-block.offset)) c.self.view_is,
      c.take.ensures.items ∙ ap (λ l. remove l (index_of c.self.inside.blocks.items c.in_ok-block.block c.in_ok-block.offset)) c.self.view_is,
    )
