-- The JSON tree of a list of values.
use Rattle.std.proofs.Common.{◌≡◌, List, [], ◌∷◌, ◌++◌, map, codes, refl, ap, ◌∙◌}
use Rattle.serde_json.specs.Data.{string, array, item}
use Rattle.serde_json.specs.View.{view, items_view, items_of}
use Rattle.serde_json.specs.declared.value.Value.{Value as Json}
use Rattle.canvas_model.specs.Value.{Value, list, values_of}
use Rattle.canvas_codec.specs.Json.{json, jsons}

jsons_are : (ps : List Value) → items_of (map json ps) ≡ jsons (values_of ps)
jsons_are [] = refl
jsons_are (p ∷ ps) = ap (item (json p)) (jsons_are ps)

pub list_tree : (written : List Json) (members : List Value) → map view written ≡ string (codes "list") ∷ map json members → array (items_view written) ≡ json (list (values_of members))
list_tree written members e = ap (λ ds. array (items_of ds)) e ∙ ap (λ ds. array (item (string (codes "list")) ds)) (jsons_are members)
