use Rattle.std.proofs.Common.{refl, ap, ◌+◌, ℕ}
use Rattle.canvas_model.specs.World.{nothing}
use Rattle.canvas_world.specs.Seen.{seen_answer}
use Rattle.canvas_world.proofs.Runs.{run_append, run_more, run_stopped}
use Rattle.canvas_world.proofs.World.advance_each.Goals as goal

pub loop-event-init : goal.loop-event-init
loop-event-init g c = record { run = nothing; count = refl }

pub loop-event-preserved : goal.loop-event-preserved
loop-event-preserved g c = record {
  run = run_more _ _ _ c.args.events.now c.loop-event.event-index c.event-item.result (seen_answer c.in_default.field-0) c.loop-event.invariant.run c.loop-event-test.true c.event-item.is c.in_default.ensures.step;
  count = ap (λ (n : ℕ). n + 1) c.loop-event.invariant.count;
}

pub returns-in-Err-clause-from_empty : goal.returns-in-Err-clause-from_empty
returns-in-Err-clause-from_empty g c = λ before run. run_append run (run_stopped _ _ _ c.args.events.now _ _ c.loop-event.invariant.run c.loop-event.invariant.count c.in-Err.ensures.err)

pub returns-clause-from_empty : goal.returns-clause-from_empty
returns-clause-from_empty g c = λ before run. run_append run (run_stopped _ _ _ c.args.events.now _ _ c.loop-event.invariant.run c.loop-event.invariant.count refl)
