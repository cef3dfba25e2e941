use Rattle.std.proofs.Common.{◌∙◌, ap}
use Rattle.std.specs.Option.{option_copied}
use Rattle.std.proofs.lemmas.Result.{IfOk-weaker}
use Rattle.canvas_scene.proofs.Joined.{placed_line, bare_line}
use Rattle.canvas_scene.proofs.report.object_line.Goals as goal

pub returns-in_ok-place-in-Some : goal.returns-in_ok-place-in-Some
returns-in_ok-place-in-Some c =
    IfOk-weaker c.format.result _ _ (λ s h. h ∙ placed_line c.args.object.now c.kind-kind.result (option_copied c.place.result) _ _ c.kind-kind.ensures c.place.ensures (ap option_copied c.in-Some.is) c.in_ok-place-in-Some.ensures) c.format.ensures.ok

pub returns-in-None : goal.returns-in-None
returns-in-None c =
    IfOk-weaker c.format-in-None.result _ _ (λ s h. h ∙ bare_line c.args.object.now c.kind-kind.result (option_copied c.place.result) c.kind-kind.ensures c.place.ensures (ap option_copied c.in-None.is)) c.format-in-None.ensures.ok
