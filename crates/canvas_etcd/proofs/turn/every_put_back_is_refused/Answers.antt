use Rattle.canvas_etcd.proofs.Turning.{put_back}
use Rattle.canvas_etcd.proofs.turn.every_put_back_is_refused.Goals as goal

pub returns : goal.returns
returns c = put_back
