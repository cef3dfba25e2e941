-- Properties: names with their values.
use Rattle.std.specs.Prelude.{◌≡◌, ℕ, List, true}
use Rattle.canvas_model.specs.Value.{Value}
use Rattle.canvas_value.specs.Names.{IsName}
use Rattle.canvas_value.specs.Range.{fits}

-- the name is a name, and the numbers of the value are in range
pub record IsProp (prop : List ℕ × Value) : Type 0 where
  pub name : IsName prop.0
  pub range : fits prop.1 ≡ true
