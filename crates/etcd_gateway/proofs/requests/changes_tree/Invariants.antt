use Rattle.std.proofs.Common.{◌≡◌, map, take}
use Rattle.serde_json.specs.View.{view}
use Rattle.etcd_gateway.specs.Trees.{change_tree}
use Rattle.etcd_gateway.proofs.requests.changes_tree.Given as goal

-- the first ones are written
abbrev pub invariant-loop-change : goal.invariant-loop-change
invariant-loop-change l = map view l.items.items ≡ map change_tree (take l.change-index l.changes)
