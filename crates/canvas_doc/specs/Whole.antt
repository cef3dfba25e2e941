-- Which lists of objects are a document.
use Rattle.std.specs.Prelude.{◌≡◌, Bool, List, [], ◌∷◌, None, IsTrue, T, is_some}
use Rattle.std.specs.List.{list_all}
use Rattle.std.specs.FinMap as map
use Rattle.canvas_model.specs.declared.ObjId.{ObjId}
use Rattle.canvas_model.specs.declared.Kind.TheVariants.{Document}
use Rattle.canvas_model.specs.Ids.{id_cmp, root}
use Rattle.canvas_model.specs.Document.{Object, IsDocument}

-- the ids rise strictly, and the objects are a document
pub record AreDocument (es : List (ObjId × Object)) : Type 0 where
  pub sorted : T (map.is_sorted id_cmp es)
  pub document : IsDocument (map.from_sorted es)

-- whether the object has a place
abbrev pub is_placed : ObjId × Object → Bool
is_placed e = is_some e.1.place

-- it is the root, a Document without a place
abbrev pub IsRoot : ObjId × Object → Type 0
IsRoot e = (e.0 ≡ root) × (e.1.kind ≡ Document) × (e.1.place ≡ None)

-- the first one is the root, and each of the others has a place
abbrev pub AreRooted : List (ObjId × Object) → Type 0
AreRooted [] = ⊥
AreRooted (e ∷ es) = IsRoot e × IsTrue (list_all is_placed es)
