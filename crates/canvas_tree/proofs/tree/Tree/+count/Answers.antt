use Rattle.canvas_tree.proofs.Reading.{counted_more}
use Rattle.canvas_tree.proofs.tree.Tree.+count.Goals as goal

pub loop-child-preserved : goal.loop-child-preserved
loop-child-preserved g t c = counted_more c.deref-child-items.result.now c.loop-child.child-index c.child-item.result _ c.loop-child.total c.count.result c.saturating_add-total.result c.loop-child-test.true c.child-item.is c.loop-child.invariant c.count.ensures c.saturating_add-total.ensures
