-- No two values have one JSON.
use Rattle.std.proofs.Common.{◌≡◌, ℕ, pos, negsuc, codes, bytes_eq, if◌then◌else◌, refl, ap, sym, ◌∙◌}
use Rattle.serde_json.specs.Data as D
use Rattle.serde_json.specs.Data.{Data, boolean, string, array, unsigned, negative, Items, no_items, item}
use Rattle.canvas_model.specs.Value.{Value, number, truth, colour, text, list, Values, no_more, more}
use Rattle.canvas_codec.specs.Json.{json, jsons}

abbrev colour_at : Items → ℕ
colour_at (item (D.number (unsigned n)) ds) = n
colour_at _ = 0

-- the value that a JSON tree is of, whatever its numbers
abbrev mutual
  value_at : Data → Value
  value_at (boolean b) = truth b
  value_at (D.number (unsigned n)) = number (pos n)
  value_at (D.number (negative z)) = number z
  value_at (string s) = text s
  value_at (array (item (string s) ds)) = if bytes_eq s (codes "rgba") then colour (colour_at ds) else list (values_at ds)
  value_at _ = list no_more

  values_at : Items → Values
  values_at no_items = no_more
  values_at (item d ds) = more (value_at d) (values_at ds)

mutual
  back : (v : Value) → value_at (json v) ≡ v
  back (number (pos n)) = refl
  back (number (negsuc n)) = refl
  back (truth b) = refl
  back (colour c) = refl
  back (text s) = refl
  back (list vs) = ap list (all_back vs)

  all_back : (vs : Values) → values_at (jsons vs) ≡ vs
  all_back no_more = refl
  all_back (more v vs) = λ i. more (back v i) (all_back vs i)

pub json_one : (v w : Value) → json v ≡ json w → v ≡ w
json_one v w e = sym (back v) ∙ ap value_at e ∙ back w
