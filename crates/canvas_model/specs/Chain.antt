-- Chains of parents: which objects lie below which, and which are in the tree.
use Rattle.std.specs.Prelude.{◌≡◌, ◌↔◌, Some, IsTrue, List}
use Rattle.std.specs.List.{Contains}
use Rattle.std.specs.List.Sorted.{IsStrictlySortedBy}
use Rattle.canvas_model.specs.declared.ObjId.{ObjId}
use Rattle.canvas_model.specs.Ids.{id_cmp, root}
use Rattle.canvas_model.specs.Document.{Doc, Place, live, place_of}

-- q is o or lies below it: a chain of live objects leads from q to o, each next one the parent in the former's place
pub data Below (d : Doc) : ObjId → ObjId → Type 0 where
  itself : {o : ObjId} → IsTrue (live d o) → Below d o o
  through : {q o : ObjId} (place : Place) → place_of d q ≡ Some place → Below d place.parent o → Below d q o

-- a chain leads to the root
abbrev pub InTree : Doc → ObjId → Type 0
InTree d q = Below d q root

-- a chain leads from q's parent back to q
abbrev pub IsCycle : Doc → ObjId → Type 0
IsCycle d q = (place : Place) × (place_of d q ≡ Some place) × Below d place.parent q

-- all objects below this one, itself among them, in id order
abbrev pub AreBelow : Doc → ObjId → List ObjId → Type 0
AreBelow d id ids = IsStrictlySortedBy id_cmp ids × ((q : ObjId) → Contains ids q ↔ Below d q id)
