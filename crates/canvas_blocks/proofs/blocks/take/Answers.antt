use Rattle.std.proofs.Common.{◌≡◌, ◌∙◌, sym, set, length, true, length-set, arith}
use Rattle.std.specs.Bool.{◌==◌}
use Rattle.std.proofs.lemmas.Bool.Decides.{nat_tests}
use Rattle.canvas_blocks.proofs.Placed.{at_index, item_read, item_removed, block_removed}
use Rattle.canvas_blocks.proofs.blocks.take.Goals as goal

pub returns-then-is_empty-clause-item : goal.returns-then-is_empty-clause-item
returns-then-is_empty-clause-item g c = c.remove-item.ensures.value ∙ sym (item_read c.args.blocks.now.items _ c.args.block c.args.offset (at_index c.args.blocks.now.items c.args.block c.args.offset c.requires.there) c.index_mut.result.now c.index_mut.ensures.value c.remove-item.result)

pub returns-then-is_empty-clause-items : goal.returns-then-is_empty-clause-items
returns-then-is_empty-clause-items g c =
    let long : length (set c.args.blocks.now.items c.args.block c.remove-item.new.self) ≡ length c.args.blocks.now.items = length-set c.args.blocks.now.items c.args.block c.remove-item.new.self in
    let empty : (c.index.result.now.len == 0) ≡ true = sym c.is_empty.ensures ∙ c.if-is_empty.true in
    let none : c.index.result.now.len ≡ 0 = grind (arith, nat_tests) in
    block_removed (set c.args.blocks.now.items c.args.block c.remove-item.new.self) c.remove.new.self.items c.args.block c.index.result.now (omega (arith, c.requires.there.block_in, long)) c.index.ensures (sym c.index.result.now.ok.0 ∙ none) c.remove.ensures.items
    ∙ item_removed c.args.blocks.now.items _ c.args.block c.args.offset (at_index c.args.blocks.now.items c.args.block c.args.offset c.requires.there) c.index_mut.result.now c.index_mut.ensures.value c.remove-item.new.self c.remove-item.ensures.items

pub returns-else-is_empty-clause-item : goal.returns-else-is_empty-clause-item
returns-else-is_empty-clause-item g c = c.remove-item.ensures.value ∙ sym (item_read c.args.blocks.now.items _ c.args.block c.args.offset (at_index c.args.blocks.now.items c.args.block c.args.offset c.requires.there) c.index_mut.result.now c.index_mut.ensures.value c.remove-item.result)

pub returns-else-is_empty-clause-items : goal.returns-else-is_empty-clause-items
returns-else-is_empty-clause-items g c = item_removed c.args.blocks.now.items _ c.args.block c.args.offset (at_index c.args.blocks.now.items c.args.block c.args.offset c.requires.there) c.index_mut.result.now c.index_mut.ensures.value c.remove-item.new.self c.remove-item.ensures.items
