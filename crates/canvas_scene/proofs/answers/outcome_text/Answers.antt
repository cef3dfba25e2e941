use Rattle.std.proofs.Common.{◌∙◌, refl, sym, ap}
use Rattle.std.specs.Prelude.{codes}
use Rattle.std.specs.Fmt.{decimal}
use Rattle.std.proofs.lemmas.Result.{IfOk-weaker}
use Rattle.canvas_judge.specs.Seen.{seen_outcome}
use Rattle.canvas_scene.specs.Answers.{outcome_text}
use Rattle.canvas_scene.proofs.Joined.{refused_parts}
use Rattle.canvas_scene.proofs.answers.outcome_text.Goals as goal

pub returns-in_ok-carried-in-Refused : goal.returns-in_ok-carried-in-Refused
returns-in_ok-carried-in-Refused c =
    let is = ap seen_outcome (sym c.in-Refused.is) in
    IfOk-weaker c.format-in-Refused.result _ _ (λ s h. h ∙ refused_parts (codes "refused ") _ _ _ _ _ _ (ap decimal c.number-number.ensures) refl c.in_ok-carried-in-Refused.ensures ∙ ap outcome_text is) c.format-in-Refused.ensures.ok
