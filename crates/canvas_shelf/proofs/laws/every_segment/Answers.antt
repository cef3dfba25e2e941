use Rattle.canvas_shelf.proofs.Splits.{splits_once}
use Rattle.canvas_shelf.proofs.laws.every_segment.Goals as goal

pub returns : goal.returns
returns c = splits_once
