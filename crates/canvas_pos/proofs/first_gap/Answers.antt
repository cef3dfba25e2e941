use Rattle.std.proofs.Common.{arith, below_more}
use Rattle.std.specs.Option.{option_copied}
use Rattle.canvas_pos.proofs.Gaps.{narrow-zero, narrow-suc, opens-suc, shut-narrow}
use Rattle.canvas_pos.proofs.first_gap.Goals as goal

pub loop-i-init : goal.loop-i-init
loop-i-init c = narrow-zero (option_copied c.args.lo) (option_copied c.args.hi) c.requires.low c.requires.high

pub returns-then-low-high-clause-opens : goal.returns-then-low-high-clause-opens
returns-then-low-high-clause-opens c =
    opens-suc (option_copied c.args.lo) (option_copied c.args.hi) c.loop-i.i c.low_digit-low.result c.high_digit-high.result c.requires.low c.requires.high
    c.loop-i.invariant c.low_digit-low.ensures.value c.high_digit-high.ensures.value c.if-low-high.true

pub loop-i-preserved : goal.loop-i-preserved
loop-i-preserved c =
    narrow-suc (option_copied c.args.lo) (option_copied c.args.hi) c.loop-i.i c.low_digit-low.result c.high_digit-high.result c.requires.low c.requires.high c.requires.order
    c.loop-i.invariant c.low_digit-low.ensures.value c.high_digit-high.ensures.value c.if-low-high.false

pub returns-clause-shut : goal.returns-clause-shut
returns-clause-shut c = λ n h.
    below_more _ c.loop-i.i c.loop-i.invariant.shut (shut-narrow (option_copied c.args.lo) (option_copied c.args.hi) c.loop-i.i c.requires.low c.requires.high c.loop-i.invariant) n (omega arith)
