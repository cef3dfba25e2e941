use Rattle.canvas_etcd.proofs.Turning.{repeats}
use Rattle.canvas_etcd.proofs.turn.every_repeat_is_done_once.Goals as goal

pub returns : goal.returns
returns c = repeats
