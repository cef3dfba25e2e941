use Rattle.canvas_embed.proofs.PlacedEdits.{each_placed_edit_keeps}
use Rattle.canvas_embed.proofs.placed.every_placed_edit.Goals as goal

pub returns : goal.returns
returns c = each_placed_edit_keeps c.every_placed_edit.ensures
