use Rattle.std.proofs.Common.{map, take}
use Rattle.canvas_model.specs.World.{empty}
use Rattle.canvas_script.specs.Plays.{AddsItems}
use Rattle.canvas_script.specs.Script.{seen_item}
use Rattle.canvas_script.proofs.play.play_items.Given as goal

abbrev pub invariant-loop-item : goal.invariant-loop-item
invariant-loop-item l = AddsItems l.names empty (map seen_item (take l.item-index l.items)) l.initial.out.items l.world l.out.items
