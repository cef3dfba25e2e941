use Rattle.std.proofs.Common.{◌+◌, Some, None, sym, subst, arith}
use Rattle.canvas_model.specs.Position.{IsPosition}
use Rattle.canvas_pos.specs.Step.{HoldNoStep}
use Rattle.canvas_pos.proofs.Steps.{narrow-first, no_step-fits, step_before-fits, step_before-only, step_before-short, step_before-long}
use Rattle.canvas_pos.proofs.step.step_before.Goals as goal

pub returns-then-end-gt1-clause-step : goal.returns-then-end-gt1-clause-step
returns-then-end-gt1-clause-step g c =
    rw (← c.bytes-bytes.ensures.value)
    (step_before-short c.bytes-bytes.result.now c.in_ok-step.step c.steps_to-end.result (subst IsPosition (sym c.bytes-bytes.ensures.value) c.bytes-bytes.ensures.position) c.in_ok-step.ensures.position c.in_ok-step.ensures.short
    c.steps_to-end.ensures.value c.in_ok-step.ensures.value c.if-end-gt1.true)

pub returns-then-end-gt1-clause-only : goal.returns-then-end-gt1-clause-only
returns-then-end-gt1-clause-only g c = λ q k. step_before-only c.args.first.now c.in_ok-step.step q (returns-then-end-gt1-clause-step g c) k

pub returns-then-end-gt1-clause-fits : goal.returns-then-end-gt1-clause-fits
returns-then-end-gt1-clause-fits g c = step_before-fits c.args.first.now c.in_ok-step.step c.bytes-bytes.ensures.position (returns-then-end-gt1-clause-step g c)

pub gap_before-requires-clause-narrow : goal.gap_before-requires-clause-narrow
gap_before-requires-clause-narrow g c =
    narrow-first c.bytes-bytes.result.now 4 c.steps_to-end.result (subst IsPosition (sym c.bytes-bytes.ensures.value) c.bytes-bytes.ensures.position) c.steps_to-end.ensures.value c.steps_to-end.ensures.some c.if-end-gt1.false

pub returns-in_default-clause-none : goal.returns-in_default-clause-none
returns-in_default-clause-none g c = λ p h.
    no_step-fits None (Some c.args.first.now) p tt c.bytes-bytes.ensures.position (subst (λ s. HoldNoStep None (Some s)) c.bytes-bytes.ensures.value c.in_default.ensures.shut) h

pub returns-clause-step : goal.returns-clause-step
returns-clause-step g c =
    rw (← c.bytes-bytes.ensures.value)
    (step_before-long c.bytes-bytes.result.now c.in_ok-step-2.step (c.in-Some.gap.before + 1) c.in-Some.gap.last c.in_ok-step-2.ensures.position c.in-Some.ensures.fewest c.in_ok-step-2.ensures.len (omega (arith, c.in_ok-step-2.ensures.value)) c.in-Some.ensures.greatest)

pub returns-clause-only : goal.returns-clause-only
returns-clause-only g c = λ q k. step_before-only c.args.first.now c.in_ok-step-2.step q (returns-clause-step g c) k

pub returns-clause-fits : goal.returns-clause-fits
returns-clause-fits g c = step_before-fits c.args.first.now c.in_ok-step-2.step c.bytes-bytes.ensures.position (returns-clause-step g c)
