use Rattle.canvas_etcd.proofs.Turning.{told_was_done}
use Rattle.canvas_etcd.proofs.turn.every_told_one_was_done.Goals as goal

pub returns : goal.returns
returns c = told_was_done
