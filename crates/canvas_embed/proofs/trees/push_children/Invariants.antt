use Rattle.std.proofs.Common.{◌≡◌, ◌+◌, ◌++◌, take}
use Rattle.std.specs.Prelude.{map}
use Rattle.canvas_embed.specs.Trees.{pending_at}
use Rattle.canvas_embed.proofs.trees.push_children.Given as goal

abbrev pub invariant-loop-id : goal.invariant-loop-id
invariant-loop-id l = l.pending.items ≡ l.initial.pending.items ++ map (pending_at (l.at.level + 1)) (take l.id-index l.id-items)
