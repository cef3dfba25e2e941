use Rattle.std.proofs.Common.{arith}
use Rattle.canvas_pos.proofs.Steps.{end-some}
use Rattle.canvas_pos.proofs.step.steps_to.Goals as goal

pub returns-else-first-gt-DIGITS-clause-some : goal.returns-else-first-gt-DIGITS-clause-some
returns-else-first-gt-DIGITS-clause-some c = omega (arith, c.digits_number-steps.ensures.value, end-some c.args.first.now 4 c.requires)
