use Rattle.std.proofs.Common.{Some, None, arith, below_more}
use Rattle.canvas_pos.proofs.Gaps.{shut-narrow}
use Rattle.canvas_pos.proofs.Steps.{fewest-suc, least-last, narrow-last_more}
use Rattle.canvas_pos.proofs.step.gap_after.Goals as goal

pub loop-i-preserved : goal.loop-i-preserved
loop-i-preserved c = narrow-last_more c.args.last.now c.loop-i.i c.digit-low.result c.requires.position c.loop-i.invariant c.digit-low.ensures.value c.if-low-lt94.false

pub returns-then-low-lt94-clause-fewest : goal.returns-then-low-lt94-clause-fewest
returns-then-low-lt94-clause-fewest c = fewest-suc (Some c.args.last.now) None c.loop-i.i c.requires.position tt c.loop-i.invariant (omega arith) (omega arith)

pub returns-then-low-lt94-clause-least : goal.returns-then-low-lt94-clause-least
returns-then-low-lt94-clause-least c = least-last c.args.last.now c.loop-i.i c.digit-low.result c.requires.position c.loop-i.invariant c.digit-low.ensures.value c.if-low-lt94.true

pub returns-clause-shut : goal.returns-clause-shut
returns-clause-shut c = λ n low high.
    below_more _ c.loop-i.i c.loop-i.invariant.shut (shut-narrow (Some c.args.last.now) None c.loop-i.i c.requires.position tt c.loop-i.invariant) n (omega arith)
