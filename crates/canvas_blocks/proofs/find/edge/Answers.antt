use Rattle.std.proofs.Common.{◌≡◌, ◌+◌, ◌-◌, ◌/◌, false, get_or, refl, subst, arith}
use Rattle.std.specs.Fn.{FnReturnsAt}
use Rattle.canvas_blocks.proofs.Placed.{at_here}
use Rattle.canvas_blocks.proofs.find.edge.Goals as goal

pub loop-low-preserved-then-passes : goal.loop-low-preserved-then-passes
loop-low-preserved-then-passes g c = (
  omega arith,
  omega arith,
  λ d lt. at_here (FnReturnsAt g.P.Fn c.args.before.now) c.args.items.now (c.loop-low.low + (c.loop-low.high - c.loop-low.low) / 2) (c.loop-low.low + (c.loop-low.high - c.loop-low.low) / 2 + 1 - 1) c.index-items-mid.result _ _ (omega arith) c.index-items-mid.is c.passes.ensures c.if-passes.true (omega arith) d,
  λ d lt. c.loop-low.invariant.3 d lt,
)

pub loop-low-preserved : goal.loop-low-preserved
loop-low-preserved g c = (
  omega arith,
  omega arith,
  λ d lt. c.loop-low.invariant.2 d lt,
  λ d lt. at_here (FnReturnsAt g.P.Fn c.args.before.now) c.args.items.now (c.loop-low.low + (c.loop-low.high - c.loop-low.low) / 2) (c.loop-low.low + (c.loop-low.high - c.loop-low.low) / 2) c.index-items-mid.result _ _ (omega arith) c.index-items-mid.is c.passes.ensures c.if-passes.false refl d,
)

pub returns : goal.returns
returns g c =
    let met : c.loop-low.high ≡ c.loop-low.low = omega arith in
    record {
      within = omega arith;
      before = λ d lt. c.loop-low.invariant.2 d lt;
      after = λ d lt. subst (λ k. FnReturnsAt g.P.Fn c.args.before.now (get_or c.args.items.now k d) false) met (c.loop-low.invariant.3 d (omega arith));
    }
