use Rattle.std.proofs.Common.{◌≡◌, ◌++◌, [], take}
use Rattle.std.specs.List.{fold}
use Rattle.etcd_gateway.proofs.keys.join.Given as goal

-- the first ones are joined
abbrev pub invariant-loop-part : goal.invariant-loop-part
invariant-loop-part l = l.key.items ≡ fold (λ front part. front ++ part.now) [] (take l.part-index l.parts)
