-- The text of a value: it has no float, and nests little deeper than the value.
use Rattle.std.proofs.Common.{◌≡◌, ℕ, suc, ◌≤◌, pos, negsuc, List, false, unwrap_or, refl, ap, sym, ◌∙◌, arith}
use Rattle.serde_json.specs.Data as D
use Rattle.serde_json.specs.Data.{Data}
use Rattle.serde_json.specs.Written.{has_float, items_have_float}
use Rattle.canvas_model.specs.Value.{Value, number, truth, colour, text, list, Values, no_more, more, depth, members_depth}
use Rattle.canvas_codec.specs.Json.{json, jsons}
use Rattle.canvas_codec.specs.Text.{Spells}
use Rattle.canvas_codec.proofs.JsonOne.{json_one}

mutual
  pub no_float : (v : Value) → has_float (json v) ≡ false
  no_float (number (pos n)) = refl
  no_float (number (negsuc n)) = refl
  no_float (truth b) = refl
  no_float (colour c) = refl
  no_float (text s) = refl
  no_float (list vs) = no_floats vs

  no_floats : (vs : Values) → items_have_float (jsons vs) ≡ false
  no_floats no_more = refl
  no_floats (more v vs) = rw (no_float v, no_floats vs) refl

mutual
  pub nests : (v : Value) → D.depth (json v) ≤ suc (depth v)
  nests (number (pos n)) = omega arith
  nests (number (negsuc n)) = omega arith
  nests (truth b) = omega arith
  nests (colour c) = omega arith
  nests (text s) = omega arith
  nests (list vs) = omega (arith, all_nest vs)

  all_nest : (vs : Values) → D.items_depth (jsons vs) ≤ suc (members_depth vs)
  all_nest no_more = omega arith
  all_nest (more v vs) = omega (arith, nests v, all_nest vs)

pub spells_one : (s : List ℕ) (v w : Value) → Spells s v → Spells s w → v ≡ w
spells_one s v w a b = json_one v w (ap (λ o. unwrap_or o (json v)) (sym a.1 ∙ b.1))
