use Rattle.std.proofs.Common.{◌≡◌, take}
use Rattle.std.specs.List.{fold}
use Rattle.serde_json.specs.Data.{no_members, put}
use Rattle.serde_json.specs.View.{members_view}
use Rattle.etcd_gateway.specs.Trees.{leaf_tree}
use Rattle.etcd_gateway.proofs.requests.object_of.Given as goal

-- the first ones are put
abbrev pub invariant-loop-name : goal.invariant-loop-name
invariant-loop-name l = members_view l.map.entries ≡ fold (λ ms m. put m.0.now (leaf_tree m.1) ms) no_members (take l.name-index l.members)
