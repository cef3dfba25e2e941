-- Deleted objects that are created again.
use Rattle.std.specs.Prelude.{◌≡◌, ◌≢◌, false, List, [], ◌∷◌, ◌++◌, Some}
use Rattle.std.specs.FinMap as map
use Rattle.canvas_model.specs.declared.ObjId.{ObjId}
use Rattle.canvas_model.specs.Ids.{root}
use Rattle.canvas_model.specs.Value.{Value}
use Rattle.canvas_model.specs.Document.{Doc, Name, Object, Place, live}
use Rattle.canvas_model.specs.Change.{Change, Create, Delete, Set}
use Rattle.canvas_model.specs.Overlay.{lay, over}

-- each property set, the last one first
abbrev pub setting : ObjId → List (Name × Value) → List Change
setting id [] = []
setting id (prop ∷ props) = setting id props ++ Set id prop.0 (Some prop.1) ∷ []

-- an object created under this id at this place, then each of its properties set
abbrev pub making_again : ObjId → Place → Object → List Change
making_again id place o = Create id o.kind place ∷ setting id (map.entries o.props)

-- under an id that isn't live these changes show the same object, and change no other
abbrev pub EachIsMadeAgain : Type 0
EachIsMadeAgain = (view : Doc) (id : ObjId) (place : Place) (o : Object) → live view id ≡ false → id ≢ root → o.place ≡ Some place
    → over view (making_again id place o) ≡ map.insert view id o

-- a deletion, then the object created again under a new id, gives the same view with the new id in place of the old one
abbrev pub EachDeletionIsTakenBack : Type 0
EachDeletionIsTakenBack = (view : Doc) (id new : ObjId) (place : Place) (o : Object) → map.get view id ≡ Some o → o.place ≡ Some place → id ≢ root → live view new ≡ false → new ≢ root
    → over (lay view (Delete id)) (making_again new place o) ≡ map.insert (map.remove view id) new o
