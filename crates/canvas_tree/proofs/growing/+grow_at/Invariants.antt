use Rattle.std.proofs.Common.{◌≡◌, take}
use Rattle.canvas_tree.specs.Shapes.{forest_of, tops}
use Rattle.canvas_tree.specs.Trees.{AreVertices}
use Rattle.canvas_tree.proofs.Rows.{room_below}
use Rattle.canvas_tree.proofs.growing.+grow_at.Given as goal

abbrev pub decreases-grow_at : goal.decreases-grow_at
decreases-grow_at g l = room_below l.doc.now l.id

abbrev pub invariant-loop-child : goal.invariant-loop-child
invariant-loop-child g l = record {
  same : tops (forest_of l.children.items) ≡ take l.child-index l.child-items;
  nodes : AreVertices l.doc (forest_of l.children.items);
}
