use Rattle.canvas_folder.proofs.Surer.{lists_the_top}
use Rattle.canvas_folder.proofs.laws.every_fresh_folder_lists_the_top.Goals as goal

pub returns : goal.returns
returns c = lists_the_top
