use Rattle.std.proofs.Common.{◌≡◌, ◌-◌, true, arith, subst}
use Rattle.std.specs.Prelude.{nat_lt}
use Rattle.canvas_model.specs.Depth.{depth_limit}
use Rattle.canvas_judge.specs.Bounds.{IsBound}
use Rattle.canvas_judge.proofs.Against.{some_of}
use Rattle.canvas_judge.proofs.Bounding.{surely}
use Rattle.canvas_judge.proofs.bounds.is_surely_within.Goals as goal

pub returns : goal.returns
returns g c told h =
    surely c.args.doc.now c.in-Some.bound c.in-Some-depth.old c.in-Some-depth-2.new c.args.id c.args.parent c.objects-objects.ensures.document
    (some_of (IsBound c.args.doc.now) c.args.bound c.in-Some.bound c.in-Some.is c.requires) c.in-Some-depth.ensures c.in-Some-depth-2.ensures (omega (arith, c.if-new-ge-DEPTH_LIMIT.false))
    (subst (λ k. nat_lt k (depth_limit - c.in-Some-depth-2.new) ≡ true) c.saturating_sub.ensures told) h
