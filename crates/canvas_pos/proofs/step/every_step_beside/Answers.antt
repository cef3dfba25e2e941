use Rattle.canvas_pos.proofs.Steps.{step_after-fits, step_before-fits, step_after-only, step_before-only}
use Rattle.canvas_pos.proofs.Steps.{steps_after-go_on, steps_before-go_on, steps_after-short, steps_before-short, millions-after, millions-before}
use Rattle.canvas_pos.proofs.step.every_step_beside.Goals as goal

pub returns : goal.returns
returns c = record {
  after = step_after-fits;
  only_after = λ last p h q k. step_after-only last p q h k;
  before = step_before-fits;
  only_before = λ first p h q k. step_before-only first p q h k;
  go_on_after = steps_after-go_on;
  go_on_before = steps_before-go_on;
  short_after = steps_after-short;
  short_before = steps_before-short;
  millions_after = millions-after;
  millions_before = millions-before;
}
