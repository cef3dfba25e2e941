use Rattle.std.proofs.Common.{◌≤◌, length}
use Rattle.etcd_store.proofs.exchange.take_all.Given as goal

-- no more was taken than there is
abbrev pub invariant-loop : goal.invariant-loop
invariant-loop l = l.at ≤ length l.bytes
