use Rattle.std.proofs.Common.{◌+◌, Some, None, sym, subst, arith}
use Rattle.canvas_model.specs.Position.{IsPosition}
use Rattle.canvas_pos.specs.Step.{HoldNoStep}
use Rattle.canvas_pos.proofs.Steps.{narrow-last, no_step-fits, step_after-fits, step_after-only, step_after-short, step_after-long}
use Rattle.canvas_pos.proofs.step.step_after.Goals as goal

pub returns-then-next-lt-STEPS-clause-step : goal.returns-then-next-lt-STEPS-clause-step
returns-then-next-lt-STEPS-clause-step g c =
    rw (← c.bytes-bytes.ensures.value)
    (step_after-short c.bytes-bytes.result.now c.in_ok-step.step (subst IsPosition (sym c.bytes-bytes.ensures.value) c.bytes-bytes.ensures.position) c.in_ok-step.ensures.position c.in_ok-step.ensures.short
    (omega (arith, c.in_ok-step.ensures.value, c.digits_number-next.ensures.value)) (omega (arith, c.if-next-lt-STEPS.true, c.digits_number-next.ensures.value)))

pub returns-then-next-lt-STEPS-clause-only : goal.returns-then-next-lt-STEPS-clause-only
returns-then-next-lt-STEPS-clause-only g c = λ q k. step_after-only c.args.last.now c.in_ok-step.step q (returns-then-next-lt-STEPS-clause-step g c) k

pub returns-then-next-lt-STEPS-clause-fits : goal.returns-then-next-lt-STEPS-clause-fits
returns-then-next-lt-STEPS-clause-fits g c = step_after-fits c.args.last.now c.in_ok-step.step c.bytes-bytes.ensures.position (returns-then-next-lt-STEPS-clause-step g c)

pub gap_after-requires-clause-narrow : goal.gap_after-requires-clause-narrow
gap_after-requires-clause-narrow g c =
    narrow-last c.bytes-bytes.result.now 4 (subst IsPosition (sym c.bytes-bytes.ensures.value) c.bytes-bytes.ensures.position)
    (omega (arith, c.digits_number-next.ensures.value, c.digits_number-next.ensures.range)) (omega (arith, c.if-next-lt-STEPS.false, c.digits_number-next.ensures.value))

pub returns-in_default-clause-none : goal.returns-in_default-clause-none
returns-in_default-clause-none g c = λ p h.
    no_step-fits (Some c.args.last.now) None p c.bytes-bytes.ensures.position tt (subst (λ s. HoldNoStep (Some s) None) c.bytes-bytes.ensures.value c.in_default.ensures.shut) h

pub returns-clause-step : goal.returns-clause-step
returns-clause-step g c =
    rw (← c.bytes-bytes.ensures.value)
    (step_after-long c.bytes-bytes.result.now c.in_ok-step-2.step (c.in-Some.gap.before + 1) _ c.in_ok-step-2.ensures.position c.in-Some.ensures.fewest c.in_ok-step-2.ensures.len c.in_ok-step-2.ensures.value c.in-Some.ensures.least)

pub returns-clause-only : goal.returns-clause-only
returns-clause-only g c = λ q k. step_after-only c.args.last.now c.in_ok-step-2.step q (returns-clause-step g c) k

pub returns-clause-fits : goal.returns-clause-fits
returns-clause-fits g c = step_after-fits c.args.last.now c.in_ok-step-2.step c.bytes-bytes.ensures.position (returns-clause-step g c)
