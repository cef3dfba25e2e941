use Rattle.std.proofs.Common.{take, get_or, ap, sym, ◌∙◌}
use Rattle.std.proofs.lemmas.List.{take_more}
use Rattle.canvas_value.specs.Range.{fits}
use Rattle.canvas_value.proofs.Members.{all_fit-more}
use Rattle.canvas_value.proofs.every_number.Goals as goal

pub loop-item-preserved : goal.loop-item-preserved
loop-item-preserved g c =
    let more = take_more c.args.items.now c.loop-item.item-index c.item-item.result c.loop-item-test.true in
    let fit = ap fits (sym c.item-item.is) ∙ c.variant-variant.ensures.range in
    rw more (all_fit-more (take c.loop-item.item-index c.args.items.now) (get_or c.args.items.now c.loop-item.item-index c.item-item.result) c.loop-item.invariant fit)
