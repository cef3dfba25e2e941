use Rattle.etcd_gateway.proofs.KeyLemmas.{every_key}
use Rattle.etcd_gateway.proofs.keys.every_chunk_key.Goals as goal

pub returns : goal.returns
returns c = every_key
