-- Whether a document's values are too deep, told from its rows.
use Rattle.std.specs.Prelude.{Bool, nat_le}
use Rattle.std.specs.List.{list_all}
use Rattle.std.specs.FinMap as map
use Rattle.canvas_model.specs.declared.ObjId.{ObjId}
use Rattle.canvas_model.specs.Value.{Value, depth, max_depth}
use Rattle.canvas_model.specs.Document.{Name, Object}

-- the property's value isn't too deep
abbrev pub is_shallow_prop : Name × Value → Bool
is_shallow_prop prop = nat_le (depth prop.1) max_depth

-- no value of the row is
abbrev pub is_shallow_row : ObjId × Object → Bool
is_shallow_row row = list_all is_shallow_prop (map.entries row.1.props)
