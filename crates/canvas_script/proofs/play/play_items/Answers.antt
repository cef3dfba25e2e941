use Rattle.std.proofs.Common.{[], subst, sym}
use Rattle.canvas_model.specs.World.{World, empty}
use Rattle.canvas_script.specs.Plays.{AddsItems}
use Rattle.canvas_script.specs.Script.{seen_item}
use Rattle.canvas_script.proofs.Plays.{next_printed, none_printed}
use Rattle.canvas_script.proofs.play.play_items.Goals as goal

pub loop-item-init : goal.loop-item-init
loop-item-init c = subst (λ (w : World). AddsItems c.args.names.now empty [] c.args.out.now.items w c.args.out.now.items) (sym c.in_ok-world.ensures) (none_printed c.args.names.now empty c.args.out.now.items)

pub loop-item-preserved : goal.loop-item-preserved
loop-item-preserved c =
    next_printed seen_item c.args.names.now empty _ _ c.args.items.now c.loop-item.item-index c.item-item.result _ _ _
    c.loop-item.invariant c.loop-item-test.true c.item-item.is c.in_ok-play_item.ensures
