-- The end of an array.
use Rattle.std.proofs.Common.{◌≡◌, List, [], ◌∷◌, None, refl}
use Rattle.serde_json.specs.View.{items_view}
use Rattle.serde_json.specs.declared.value.Value.{Value as Json}
use Rattle.canvas_codec.specs.Parts.{end_in}

pub not_ended : (vs : List Json) → (vs ≡ [] → ⊥) → end_in (items_view vs) ≡ None
not_ended [] h = absurd (h refl)
not_ended (v ∷ vs) h = refl
