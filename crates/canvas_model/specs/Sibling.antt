-- The other children of a parent, and the room between their positions.
use Rattle.std.specs.Prelude.{◌≡◌, ◌≢◌, ◌⊎◌, Option, Some, None}
use Rattle.canvas_model.specs.declared.ObjId.{ObjId}
use Rattle.canvas_model.specs.Position.{IsPosition}
use Rattle.canvas_model.specs.Order.{IsBefore, IsLowEnd}
use Rattle.canvas_model.specs.Document.{Doc, Place, Pos, place_of}

-- q is a child of this parent other than `except`, at this position
abbrev pub IsSibling : Doc → ObjId → ObjId → ObjId → Pos → Type 0
IsSibling d parent except q pos = (q ≢ except) × (place_of d q ≡ Some (record { parent = parent; pos = pos }))

-- some child of this parent other than `except` has this position
abbrev pub IsTaken : Doc → ObjId → ObjId → Pos → Type 0
IsTaken d parent except pos = (q : ObjId) × IsSibling d parent except q pos

-- a position greater than the asked one and smaller than each greater one of another child
abbrev pub IsFree : Doc → ObjId → ObjId → Pos → Pos → Type 0
IsFree d parent except asked pos = IsPosition pos × IsBefore asked pos × ((q : ObjId) (other : Pos) → IsSibling d parent except q other → IsBefore asked other → IsBefore pos other)

-- the asked place where no other child has it, else one at a free position: any will do
abbrev pub Gets : Doc → ObjId → Place → Place → Type 0
Gets d id ask got = (got.parent ≡ ask.parent) × ((got.pos ≡ ask.pos) × (IsTaken d ask.parent id ask.pos → ⊥) ⊎ IsTaken d ask.parent id ask.pos × IsFree d ask.parent id ask.pos got.pos)

-- the asked place is taken, and no position is free
abbrev pub HasNoRoom : Doc → ObjId → Place → Type 0
HasNoRoom d id ask = IsTaken d ask.parent id ask.pos × ((pos : Pos) → IsFree d ask.parent id ask.pos pos → ⊥)

-- the least position of another child that is greater than this one (or of all, at none), if there is one
abbrev pub IsNext : Doc → ObjId → ObjId → Option Pos → Option Pos → Type 0
IsNext d parent except low None = (q : ObjId) (other : Pos) → IsSibling d parent except q other → IsLowEnd low other → ⊥
IsNext d parent except low (Some pos) = IsTaken d parent except pos × IsLowEnd low pos × ((q : ObjId) (other : Pos) → IsSibling d parent except q other → IsLowEnd low other → IsBefore other pos → ⊥)
