use Rattle.std.proofs.Common.{◌<◌}
use Rattle.etcd_store.specs.Chunks.{FitsInOne}
use Rattle.etcd_store.proofs.chunks.batch_of.Given as goal

-- more than one have 1 MiB together at most
abbrev pub invariant-loop-count : goal.invariant-loop-count
invariant-loop-count l = 1 < l.count → FitsInOne l.count l.starts
