use Rattle.std.proofs.Common.{arith}
use Rattle.canvas_model.specs.Depth.{depth_limit}
use Rattle.canvas_judge.proofs.Bounding.{new_bound}
use Rattle.canvas_judge.proofs.bounds.bound_of_new.Goals as goal

pub returns : goal.returns
returns g c =
    new_bound c.args.doc.now c.args.bound c.in-Some.depth c.larger.result c.args.parent c.objects-objects.ensures.document c.requires c.in-Some.ensures
    c.larger.ensures.first c.larger.ensures.second (c.larger.ensures.most depth_limit c.requires.few (omega (arith, c.if-depth-ge-DEPTH_LIMIT.false)))
