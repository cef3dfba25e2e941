-- Changes of a document, as they are asked for.
use Rattle.std.specs.Prelude.{Option, Some, None}
use Rattle.canvas_model.specs.declared.ObjId.{ObjId}
use Rattle.canvas_model.specs.declared.Kind.{Kind}
use Rattle.canvas_model.specs.Value.{Value, IsShallow}
use Rattle.canvas_model.specs.Document.{Place, Name}

-- what may be asked: to create an object, to set or clear a property, to move an object, to delete it
pub data Change : Type 0 where
  Create : ObjId → Kind → Place → Change
  -- a value, or none for a name that is cleared
  Set : ObjId → Name → Option Value → Change
  Move : ObjId → Place → Change
  Delete : ObjId → Change

-- the object that is changed
abbrev pub object_of : Change → ObjId
object_of (Create id kind place) = id
object_of (Set id name value) = id
object_of (Move id place) = id
object_of (Delete id) = id

-- the place that is asked for
abbrev pub asked : Change → Option Place
asked (Create id kind place) = Some place
asked (Set id name value) = None
asked (Move id place) = Some place
asked (Delete id) = None

-- the change holds no value that is too deep
abbrev pub HoldsShallow : Change → Type 0
HoldsShallow (Set id name (Some value)) = IsShallow value
HoldsShallow _ = Unit {0}
