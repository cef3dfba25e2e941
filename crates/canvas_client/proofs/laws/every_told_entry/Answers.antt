use Rattle.canvas_client.proofs.Roots.{each_verdict_leaves_root}
use Rattle.canvas_client.proofs.laws.every_told_entry.Goals as goal

pub returns : goal.returns
returns c = each_verdict_leaves_root
