use Rattle.std.proofs.Common.{◌∙◌}
use Rattle.std.specs.Fmt.{decimal}
use Rattle.std.proofs.lemmas.Result.{IfOk-weaker}
use Rattle.canvas_scene.proofs.Joined.{version_line}
use Rattle.canvas_scene.proofs.answers.answer_line.Goals as goal

pub returns : goal.returns
returns c = IfOk-weaker c.format.result _ _ (λ s h. h ∙ version_line (decimal c.args.version) _ _ c.in_ok-outcome.ensures) c.format.ensures.ok
