use Rattle.canvas_client.proofs.Edited.{each_placed_edit_stands}
use Rattle.canvas_client.proofs.laws.every_placed_edit.Goals as goal

pub returns : goal.returns
returns c = each_placed_edit_stands
