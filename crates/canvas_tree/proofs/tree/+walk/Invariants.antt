use Rattle.std.proofs.Common.{◌≡◌, ◌+◌, ◌*◌, drop}
use Rattle.canvas_tree.specs.Shapes.{branch_size, forest_size, forest_of}
use Rattle.canvas_tree.specs.Reads.{path_in}
use Rattle.canvas_tree.proofs.tree.+walk.Given as goal

abbrev pub decreases-walk : goal.decreases-walk
decreases-walk g l = 2 * branch_size l.tree.now

abbrev pub decreases-walk_among : goal.decreases-walk_among
decreases-walk_among g l = 2 * forest_size (forest_of l.trees.now) + 1

abbrev pub invariant-walk_among-loop-tree : goal.invariant-walk_among-loop-tree
invariant-walk_among-loop-tree g l = (l.ids.items ≡ l.initial.ids.items) × (path_in l.id (forest_of l.trees) ≡ path_in l.id (forest_of (drop l.tree-index l.trees)))
