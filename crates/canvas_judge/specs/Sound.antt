-- What a sound state asks of each live object.
use Rattle.std.specs.Prelude.{◌≡◌, ◌≢◌, ◌≤◌, IsTrue, Some}
use Rattle.canvas_model.specs.declared.ObjId.{ObjId}
use Rattle.canvas_model.specs.declared.Kind.{Kind}
use Rattle.canvas_model.specs.Ids.{root}
use Rattle.canvas_model.specs.Document.{Doc, Object, Place, kind_of, may_stand}
use Rattle.canvas_model.specs.Sibling.{IsTaken}
use Rattle.canvas_model.specs.State.{State, used}

-- an object of this kind may stand at the place, as far as its parent is live
abbrev pub MayStandAt : Doc → Kind → Place → Type 0
MayStandAt d kind place = (parent : Kind) → kind_of d place.parent ≡ Some parent → IsTrue (may_stand kind parent)

-- the object may stand where it stands, no other object has its place, and its counter is one that its client has used
pub record IsSoundAt (s : State) (e : ObjId × Object) : Type 0 where
  pub kind : (place : Place) → e.1.place ≡ Some place → MayStandAt s.doc e.1.kind place
  pub apart : (place : Place) → e.1.place ≡ Some place → IsTaken s.doc place.parent e.0 place.pos → ⊥
  pub counter : e.0 ≢ root → e.0.counter ≤ used s e.0.client
