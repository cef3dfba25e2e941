-- Values as JSON texts.
use Rattle.std.specs.Prelude.{◌≡◌, ℕ, List, true, Some}
use Rattle.serde_json.specs.Read.{read as read_text}
use Rattle.serde_json.specs.Written.{compact_text}
use Rattle.canvas_model.specs.Value.{Value}
use Rattle.canvas_codec.specs.Json.{json}
use Rattle.canvas_value.specs.Range.{fits}

-- the JSON text of a value, with no blank outside its texts
abbrev pub json_text : Value → List ℕ
json_text v = compact_text (json v)

-- the text is JSON of this value, whose numbers are in range
abbrev pub Spells : List ℕ → Value → Type 0
Spells text v = (fits v ≡ true) × (read_text text ≡ Some (json v))
