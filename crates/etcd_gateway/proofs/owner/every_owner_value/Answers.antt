use Rattle.etcd_gateway.proofs.OwnerLemmas.{every_value}
use Rattle.etcd_gateway.proofs.owner.every_owner_value.Goals as goal

pub returns : goal.returns
returns c = every_value
