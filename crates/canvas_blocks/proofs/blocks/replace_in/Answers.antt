use Rattle.std.proofs.Common.{◌∙◌, ap, sym, set, get_or, length-set}
use Rattle.canvas_blocks.specs.Blocks.{flat, index_of}
use Rattle.canvas_blocks.proofs.Placed.{at_index, item_read, item_replaced}
use Rattle.canvas_blocks.proofs.Sized.{same_size}
use Rattle.canvas_blocks.proofs.blocks.replace_in.Goals as goal

pub returns-clause-item : goal.returns-clause-item
returns-clause-item g c =
    let read = item_read c.args.blocks.now.items _ c.args.block c.args.offset (at_index c.args.blocks.now.items c.args.block c.args.offset c.requires.there) c.index_mut-block.result.now c.index_mut-block.ensures.value c.index_mut.result.now in
    c.replace.ensures.value ∙ c.index_mut.ensures.value ∙ sym read ∙ ap (get_or (flat c.args.blocks.now.items) (index_of c.args.blocks.now.items c.args.block c.args.offset)) (sym c.replace.ensures.value)

pub returns-clause-items : goal.returns-clause-items
returns-clause-items g c = item_replaced c.args.blocks.now.items _ c.args.block c.args.offset (at_index c.args.blocks.now.items c.args.block c.args.offset c.requires.there) c.index_mut-block.result.now c.index_mut-block.ensures.value _ c.args.item (ap (set c.index_mut-block.result.now.items c.args.offset) c.replace.ensures.after)

pub returns-clause-sizes : goal.returns-clause-sizes
returns-clause-sizes g c = same_size c.args.blocks.now.items c.args.block c.index_mut-block.result.now _ c.requires.there.block_in c.index_mut-block.ensures.value (length-set c.index_mut-block.result.now.items c.args.offset c.replace.new.dest)
