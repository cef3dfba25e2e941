use Rattle.std.proofs.Common.{subst, ◌∙◌}
use Rattle.std.proofs.lemmas.Result.{IfOk-weaker}
use Rattle.canvas_live.specs.Presence.{TellsHere}
use Rattle.canvas_live.proofs.Told.{null_view, same_value}
use Rattle.canvas_live.proofs.here.Here.gone.Goals as goal

pub returns-clause-told : goal.returns-clause-told
returns-clause-told c =
    IfOk-weaker c.write_here.result _ _
    (λ here p. subst (λ value. TellsHere here.text.items here.client value here.value_bytes) (same_value _ _ _ _ _ _ (p.1.2 ∙ c.in_ok-json.ensures) ∙ null_view) p.2) c.write_here.ensures.told
