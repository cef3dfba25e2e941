use Rattle.std.proofs.Common.{sym}
use Rattle.canvas_blocks.proofs.Gaps.{shifted}
use Rattle.canvas_blocks.proofs.Sized.{same_in, same_place}
use Rattle.canvas_blocks.proofs.moves.shift.Goals as goal

pub gap_down-at-requires-clause-from : goal.gap_down-at-requires-clause-from
gap_down-at-requires-clause-from g c = same_in c.args.blocks.now.items _ _ _ (sym c.gap_up-at.ensures.sizes) c.gap_up-at.ensures.place

pub gap_down-at-requires-clause-to : goal.gap_down-at-requires-clause-to
gap_down-at-requires-clause-to g c = same_place c.args.blocks.now.items _ _ (sym c.gap_up-at.ensures.sizes) c.requires.to

pub replace_in-requires-clause-there : goal.replace_in-requires-clause-there
replace_in-requires-clause-there g c = same_in c.gap_up-at.new.blocks.items _ _ _ (sym c.gap_down-at.ensures.sizes) c.gap_down-at.ensures.place

pub returns-clause-items : goal.returns-clause-items
returns-clause-items g c =
    let there = same_in c.gap_up-at.new.blocks.items _ _ _ (sym c.gap_down-at.ensures.sizes) c.gap_down-at.ensures.place in
    shifted c.args.blocks.now.items c.gap_up-at.new.blocks.items c.gap_down-at.new.blocks.items c.replace_in.new.blocks.items c.args.from c.gap_up-at.result c.gap_down-at.result c.args.to c.args.item
    c.gap_up-at.ensures.sizes c.gap_up-at.ensures.index c.gap_up-at.ensures.items
    c.gap_down-at.ensures.sizes c.gap_down-at.ensures.index c.gap_down-at.ensures.items
    c.replace_in.ensures.items c.requires.from there
