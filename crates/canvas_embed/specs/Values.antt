-- Values as bytes.
use Rattle.std.specs.Prelude.{ℕ, List}
use Rattle.canvas_model.specs.Value.{Value, IsShallow}
use Rattle.canvas_codec.specs.Codec.{StandsFor}
use Rattle.canvas_codec.specs.Json.{value_form}
use Rattle.canvas_wire.specs.Faults.{IsTextOf}

-- the bytes are JSON of this value, which isn't too deep
abbrev pub IsValueText : List ℕ → Value → Type 0
IsValueText = IsTextOf (StandsFor value_form) IsShallow
