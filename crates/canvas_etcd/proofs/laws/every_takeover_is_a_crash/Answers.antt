use Rattle.canvas_etcd.proofs.Safety.{found_is_left}
use Rattle.canvas_etcd.proofs.laws.every_takeover_is_a_crash.Goals as goal

pub returns : goal.returns
returns c = found_is_left
