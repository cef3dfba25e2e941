use Rattle.std.proofs.Common.{◌∙◌, Some, ap, sym, set}
use Rattle.canvas_blocks.specs.Blocks.{flat, index_of}
use Rattle.canvas_blocks.proofs.Placed.{at_index, item_read, item_replaced}
use Rattle.canvas_blocks.proofs.Sized.{index_within}
use Rattle.canvas_blocks.proofs.Shifted.{value_set, value_was}
use Rattle.canvas_blocks.proofs.blocks.replace_value.Goals as goal

pub returns-clause-value : goal.returns-clause-value
returns-clause-value g c =
    let pair = c.index_mut-pair.result.now in
    let read = item_read c.args.blocks.now.items _ c.args.block c.args.offset (at_index c.args.blocks.now.items c.args.block c.args.offset c.requires.there) c.index_mut-block.result.now c.index_mut-block.ensures.value pair in
    ap Some c.replace.ensures.value
    ∙ value_was (flat c.args.blocks.now.items) (index_of c.args.blocks.now.items c.args.block c.args.offset) c.args.value pair (index_within c.args.blocks.now.items c.args.block c.args.offset c.requires.there) (c.index_mut-pair.ensures.value ∙ sym read)

pub returns-clause-items : goal.returns-clause-items
returns-clause-items g c =
    let pair = c.index_mut-pair.result.now in
    let read = item_read c.args.blocks.now.items _ c.args.block c.args.offset (at_index c.args.blocks.now.items c.args.block c.args.offset c.requires.there) c.index_mut-block.result.now c.index_mut-block.ensures.value pair in
    item_replaced c.args.blocks.now.items _ c.args.block c.args.offset (at_index c.args.blocks.now.items c.args.block c.args.offset c.requires.there) c.index_mut-block.result.now c.index_mut-block.ensures.value _ (pair.0, c.args.value) (ap (λ v. set c.index_mut-block.result.now.items c.args.offset (pair.0, v)) c.replace.ensures.after)
    ∙ value_set (flat c.args.blocks.now.items) (index_of c.args.blocks.now.items c.args.block c.args.offset) c.args.value pair (index_within c.args.blocks.now.items c.args.block c.args.offset c.requires.there) (c.index_mut-pair.ensures.value ∙ sym read)
