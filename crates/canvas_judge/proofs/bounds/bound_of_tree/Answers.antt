use Rattle.std.proofs.Common.{arith}
use Rattle.canvas_judge.proofs.Bounding.{height_bound}
use Rattle.canvas_judge.proofs.bounds.bound_of_tree.Goals as goal

pub returns : goal.returns
returns g c = height_bound c.args.doc.now c.in_ok-height.height c.in_ok-height.ensures (omega (arith, c.if-height-gt-DEPTH_LIMIT.false))
