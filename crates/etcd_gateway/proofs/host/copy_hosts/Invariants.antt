use Rattle.std.proofs.Common.{◌≡◌, take, map, string_bytes}
use Rattle.etcd_gateway.proofs.host.copy_hosts.Given as goal

abbrev pub invariant-loop-host : goal.invariant-loop-host
invariant-loop-host l = map (λ h. string_bytes h.text) l.copies.items ≡ map (λ h. string_bytes h.text) (take l.host-index l.hosts)
