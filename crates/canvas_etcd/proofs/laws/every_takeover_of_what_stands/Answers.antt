use Rattle.canvas_etcd.proofs.Fresh.{as_found}
use Rattle.canvas_etcd.proofs.laws.every_takeover_of_what_stands.Goals as goal

pub returns : goal.returns
returns c = as_found
