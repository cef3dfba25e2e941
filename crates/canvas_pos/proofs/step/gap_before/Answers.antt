use Rattle.std.proofs.Common.{Some, None, arith, below_more}
use Rattle.canvas_pos.proofs.Gaps.{shut-narrow}
use Rattle.canvas_pos.proofs.Steps.{fewest-suc, greatest-first, narrow-first_more}
use Rattle.canvas_pos.proofs.step.gap_before.Goals as goal

pub loop-i-preserved : goal.loop-i-preserved
loop-i-preserved c = narrow-first_more c.args.first.now c.loop-i.i c.high_digit-high.result c.requires.position c.loop-i.invariant c.high_digit-high.ensures.value c.if-high-gt1.false

pub returns-then-high-gt1-clause-fewest : goal.returns-then-high-gt1-clause-fewest
returns-then-high-gt1-clause-fewest c = fewest-suc None (Some c.args.first.now) c.loop-i.i tt c.requires.position c.loop-i.invariant (omega arith) (omega arith)

pub returns-then-high-gt1-clause-greatest : goal.returns-then-high-gt1-clause-greatest
returns-then-high-gt1-clause-greatest c = greatest-first c.args.first.now c.loop-i.i c.high_digit-high.result c.requires.position c.loop-i.invariant c.high_digit-high.ensures.value c.if-high-gt1.true

pub returns-clause-shut : goal.returns-clause-shut
returns-clause-shut c = λ n low high.
    below_more _ c.loop-i.i c.loop-i.invariant.shut (shut-narrow None (Some c.args.first.now) c.loop-i.i tt c.requires.position c.loop-i.invariant) n (omega arith)
