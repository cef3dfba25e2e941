use Rattle.std.proofs.Common.{◌≡◌, drop}
use Rattle.canvas_tree.specs.Shapes.{forest_of, branch_size}
use Rattle.canvas_tree.specs.Reads.{found_in}
use Rattle.canvas_tree.proofs.tree.Tree.+find.Given as goal

abbrev pub decreases-find : goal.decreases-find
decreases-find g l = branch_size l.self.now

abbrev pub invariant-loop-child : goal.invariant-loop-child
invariant-loop-child g l = found_in l.id (forest_of l.child-items) ≡ found_in l.id (forest_of (drop l.child-index l.child-items))
