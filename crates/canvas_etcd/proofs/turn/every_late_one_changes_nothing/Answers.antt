use Rattle.canvas_etcd.proofs.Turning.{late}
use Rattle.canvas_etcd.proofs.turn.every_late_one_changes_nothing.Goals as goal

pub returns : goal.returns
returns c = late
