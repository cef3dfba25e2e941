use Rattle.std.proofs.Common.{List, ℕ, ◌++◌, ◌∷◌, ◌∙◌, ap}
use Rattle.std.proofs.lemmas.Result.{IfOk-weaker}
use Rattle.canvas_model.specs.Text.{id_text}
use Rattle.canvas_scene.proofs.Joined.{place_parts}
use Rattle.canvas_scene.proofs.answers.place_text.Goals as goal

pub returns : goal.returns
returns c =
    rw (← c.place.view_is)
    (IfOk-weaker c.format.result _ _ (λ s h. h ∙ ap (λ (p : List ℕ). id_text c.place.inside.parent ++ 32 ∷ p) c.as_str-pos.ensures ∙ place_parts _ c.place.inside.pos) c.format.ensures.ok)
