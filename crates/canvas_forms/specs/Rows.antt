-- The rows of a document as JSON, in any order: each object with its id, kind, place and properties.
use Rattle.std.specs.Prelude.{List}
use Rattle.std.specs.FinMap.{FinMap}
use Rattle.std.specs.FinMap as map
use Rattle.canvas_model.specs.declared.ObjId.{ObjId}
use Rattle.canvas_model.specs.Value.{Value}
use Rattle.canvas_model.specs.Document.{Object, Name, name_cmp}
use Rattle.canvas_codec.specs.Codec.{Codec}
use Rattle.canvas_codec.specs.Parts.{via, maybe, array_of, each, member, end}
use Rattle.canvas_codec.specs.Json.{value_form, name_form}
use Rattle.canvas_forms.specs.Only.{only}
use Rattle.canvas_forms.specs.Ids.{id_form}
use Rattle.canvas_forms.specs.Kinds.{kind_form}
use Rattle.canvas_forms.specs.Places.{place_form}

-- `[name,value]`
abbrev pub prop_form : Codec (Name × Value)
prop_form = via (λ p. (p.0, p.1.0)) (λ prop. (prop.0, (prop.1, tt))) (array_of (member name_form (member value_form end)))

-- `[[name,value],..]`
abbrev pub listed_form : Codec (List (Name × Value))
listed_form = array_of (each prop_form)

-- the same, where the names rise strictly
abbrev pub named_form : Codec (List (Name × Value))
named_form = only (map.is_sorted name_cmp) listed_form

-- properties in the order of their names
abbrev pub props_form : Codec (FinMap name_cmp Value)
props_form = via map.from_sorted map.entries named_form

-- `[id,kind,place,properties]`, with `null` for the place of what has none
abbrev pub row_form : Codec (ObjId × Object)
row_form =
    via (λ p. (p.0, record { kind = p.1.0; place = p.1.1.0; props = p.1.1.1.0 })) (λ row. (row.0, (row.1.kind, (row.1.place, (row.1.props, tt)))))
    (array_of (member id_form (member kind_form (member (maybe place_form) (member props_form end)))))

-- `[row,..]`
abbrev pub rows_form : Codec (List (ObjId × Object))
rows_form = array_of (each row_form)
