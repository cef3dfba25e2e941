use Rattle.std.proofs.Common.{arith}
use Rattle.canvas_judge.proofs.Bounding.{low_within, none_without}
use Rattle.canvas_judge.proofs.bounds.lowest_below.Goals as goal

pub returns-then-has_children : goal.returns-then-has_children
returns-then-has_children g c q n b =
    let deep = low_within c.args.doc.now c.args.bound c.args.depth n c.args.id q c.requires.bound c.requires.depth b in
    omega (arith, deep, c.saturating_sub.ensures)

pub returns-else-has_children : goal.returns-else-has_children
returns-else-has_children g c q n b = none_without c.args.doc.now c.args.id c.has_children.result c.has_children.ensures c.if-has_children.false q n b
