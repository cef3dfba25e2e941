-- The lines of a document's objects.
use Rattle.std.specs.Prelude.{ℕ, List, [], ◌∷◌, ◌++◌, codes, Option, None, Some}
use Rattle.std.specs.Fmt.{decimal}
use Rattle.std.specs.List.{flat_map}
use Rattle.std.specs.FinMap as map
use Rattle.canvas_model.specs.declared.ObjId.{ObjId}
use Rattle.canvas_model.specs.Document.{Doc, Object, Place}
use Rattle.canvas_tree.specs.Texts.{prop_line}
use Rattle.canvas_model.specs.Text.{id_text, kind_word, place_text}

-- a blank and the place, or nothing
abbrev pub refused_place_text : Option Place → List ℕ
refused_place_text None = []
refused_place_text (Some place) = codes " " ++ place_text place

-- an object's id, its kind and its place
abbrev pub object_line : ObjId × Object → List ℕ
object_line e = id_text e.0 ++ codes " " ++ kind_word e.1.kind ++ refused_place_text e.1.place ++ 10 ∷ []

-- an object's line, and one level deeper those of its properties, in the order of their names
abbrev pub lines_of_object : ObjId × Object → List ℕ
lines_of_object e = object_line e ++ flat_map (prop_line 1) (map.entries e.1.props)

-- the lines of all live objects, in id order
abbrev pub object_lines : Doc → List ℕ
object_lines d = flat_map lines_of_object (map.entries d)

-- the number of the log's entries
abbrev pub version_line : ℕ → List ℕ
version_line version = codes "version " ++ decimal version ++ 10 ∷ []
