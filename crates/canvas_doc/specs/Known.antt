-- What the types of a document's parts say of them.
use Rattle.std.specs.Prelude.{◌≡◌, true, Option, Some}
use Rattle.std.specs.FinMap as map
use Rattle.canvas_model.specs.declared.ObjId.{ObjId}
use Rattle.canvas_model.specs.Ids.{IsId}
use Rattle.canvas_model.specs.Position.{IsPosition}
use Rattle.canvas_model.specs.Value.{Value}
use Rattle.canvas_model.specs.Document.{Doc, Name, Object, Place}
use Rattle.canvas_model.specs.Change.{Change, Create, Set, Move, Delete}
use Rattle.canvas_value.specs.Range.{fits}
use Rattle.canvas_value.specs.Names.{IsName}
use Rattle.canvas_value.specs.Props.{IsProp}

-- the parent's id is of two numbers of 32 bits, and the position is one
pub record IsPlace (place : Place) : Type 0 where
  pub parent : IsId place.parent
  pub pos : IsPosition place.pos

-- if it stands anywhere, then at such a place; its names are names, and the numbers of its values are in range
pub record IsObject (o : Object) : Type 0 where
  pub place : (place : Place) → o.place ≡ Some place → IsPlace place
  pub props : (name : Name) (value : Value) → map.get o.props name ≡ Some value → IsProp (name, value)

-- it is such a one, under an id of two numbers of 32 bits
abbrev pub IsRow : ObjId × Object → Type 0
IsRow e = IsId e.0 × IsObject e.1

-- so is each live object
abbrev pub HasObjects : Doc → Type 0
HasObjects d = (q : ObjId) (o : Object) → map.get d q ≡ Some o → IsRow (q, o)

-- a property that is given a value, or loses it
pub record IsGiven (given : Name) (value : Option Value) : Type 0 where
  pub name : IsName given
  pub range : (v : Value) → value ≡ Some v → fits v ≡ true

-- the id of the changed object is one, and so are the place and the property that are asked for
abbrev pub IsChange : Change → Type 0
IsChange (Create id kind place) = IsId id × IsPlace place
IsChange (Set id name value) = IsId id × IsGiven name value
IsChange (Move id place) = IsId id × IsPlace place
IsChange (Delete id) = IsId id
