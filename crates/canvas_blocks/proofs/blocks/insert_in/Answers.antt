use Rattle.std.proofs.Common.{◌≡◌, ◌∙◌, ap, rules, set, subst}
use Rattle.std.specs.List.{insert}
use Rattle.std.specs.Fn.{FnReturnsAt}
use Rattle.canvas_blocks.specs.Blocks.{flat, index_at, index_of, IsEdge, IsIn, IsPlace}
use Rattle.canvas_blocks.proofs.Placed.{at_index, block_kept, item_inserted}
use Rattle.canvas_blocks.proofs.blocks.insert_in.Goals as goal

pub returns-in_err-insert-in-Some-clause-err : goal.returns-in_err-insert-in-Some-clause-err
returns-in_err-insert-in-Some-clause-err g c =
    let bs = c.room_for.new.blocks.items in
    let there : IsIn bs c.in-Some.block c.in-Some.offset = subst (IsPlace c.room_for.new.blocks.items) c.in-Some.is c.in_ok-block.ensures.place in
    let back : flat (set c.room_for.new.blocks.items c.in-Some.block c.insert.new.self) ≡ flat c.args.blocks.now.items =
    block_kept bs c.in-Some.block c.index_mut.result.now c.insert.new.self there.block_in c.index_mut.ensures.value c.in_err-insert-in-Some.ensures.items ∙ c.in_ok-block.ensures.items in
    search rules

pub returns-in_ok-insert-in-Some-clause-ok : goal.returns-in_ok-insert-in-Some-clause-ok
returns-in_ok-insert-in-Some-clause-ok g c =
    let bs = c.room_for.new.blocks.items in
    let there : IsIn bs c.in-Some.block c.in-Some.offset = subst (IsPlace c.room_for.new.blocks.items) c.in-Some.is c.in_ok-block.ensures.place in
    let edge : IsEdge (FnReturnsAt g.P.Fn c.args.before.now) (flat c.args.blocks.now.items) (index_of bs c.in-Some.block c.in-Some.offset) =
    subst (λ at. IsEdge (FnReturnsAt g.P.Fn c.args.before.now) (flat c.args.blocks.now.items) (index_at c.room_for.new.blocks.items at)) c.in-Some.is c.in_ok-block.ensures.edge in (
      index_of bs c.in-Some.block c.in-Some.offset,
      edge,
      item_inserted bs _ c.in-Some.block c.in-Some.offset (at_index bs c.in-Some.block c.in-Some.offset there) c.index_mut.result.now c.index_mut.ensures.value c.insert.new.self c.args.item c.in_ok-insert-in-Some.ensures.items
          ∙ ap (λ l. insert l (index_of c.room_for.new.blocks.items c.in-Some.block c.in-Some.offset) c.args.item) c.in_ok-block.ensures.items,
    )
