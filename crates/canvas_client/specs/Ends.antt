-- Edits at an end of a parent's children: a small step behind the last one, or before the first.
use Rattle.std.specs.Prelude.{◌≡◌, ℕ, Option, Some, None, codes}
use Rattle.canvas_model.specs.declared.ObjId.{ObjId}
use Rattle.canvas_model.specs.declared.Kind.{Kind}
use Rattle.canvas_model.specs.Ids.{root}
use Rattle.canvas_model.specs.Document.{Doc, Place, Pos}
use Rattle.canvas_model.specs.Order.{IsBefore}
use Rattle.canvas_model.specs.Sibling.{IsNext, IsSibling, IsTaken}
use Rattle.canvas_model.specs.Client.{Client}
use Rattle.canvas_pos.specs.Step.{StepAfter, StepBefore}
use Rattle.canvas_model.specs.Local.{error_number}
use Rattle.canvas_model.specs.Local as local
use Rattle.canvas_client.specs.Placed.{PlaceRequest, PlaceError, HasCreatedAt, HasMovedAt, RefusesAt, place_number_of, place_refusal}
use Rattle.canvas_client.specs.declared.error.EndError.{EndError}
use Rattle.canvas_client.specs.declared.error.EndError.TheVariants as error

-- the greatest position of a child of the parent other than `except`, if there is one
abbrev pub IsLast : Doc → ObjId → ObjId → Option Pos → Type 0
IsLast d parent except None = (q : ObjId) (other : Pos) → IsSibling d parent except q other → ⊥
IsLast d parent except (Some pos) = IsTaken d parent except pos × ((q : ObjId) (other : Pos) → IsSibling d parent except q other → IsBefore pos other → ⊥)

-- a step behind the last position, if there is one, else the middle of all
abbrev pub StepsBehind : Option Pos → Option Pos → Type 0
StepsBehind None got = got ≡ Some (codes "O")
StepsBehind (Some last) got = StepAfter last got

-- a step before the first position, if there is one, else the middle of all
abbrev pub StepsInFront : Option Pos → Option Pos → Type 0
StepsInFront None got = got ≡ Some (codes "O")
StepsInFront (Some first) got = StepBefore first got

-- the position of a new last child of the parent, `except` not being counted; none where no position lies there
abbrev pub LiesLast : Doc → ObjId → ObjId → Option Pos → Type 0
LiesLast d parent except got = (last : Option Pos) × IsLast d parent except last × StepsBehind last got

-- the position of a new first child of the parent, `except` not being counted; none where no position lies there
abbrev pub LiesFirst : Doc → ObjId → ObjId → Option Pos → Type 0
LiesFirst d parent except got = (first : Option Pos) × IsNext d parent except None first × StepsInFront first got

-- this position, at any parent; none where no position lies there
abbrev pub LiesAt : Option Pos → Doc → ObjId → ObjId → Option Pos → Type 0
LiesAt there d parent except got = got ≡ there

-- at one of the two ends
module _ (Lies : Doc → ObjId → ObjId → Option Pos → Type 0) where
  -- the client has created this object at the end of the parent's children
  abbrev pub HasCreatedThere : Client → Kind → ObjId → ObjId → Client → Type 0
  HasCreatedThere old kind parent id new = (pos : Pos) × Lies old.view parent root (Some pos) × HasCreatedAt old kind (record { parent = parent; pos = pos }) id new

  -- the client has moved the object to the end of the parent's children
  abbrev pub HasMovedThere : Client → ObjId → ObjId → Client → Type 0
  HasMovedThere old id parent new = (pos : Pos) × Lies old.view parent id (Some pos) × HasMovedAt old id (record { parent = parent; pos = pos }) new

  -- the client refuses the request at the end of the parent's children so; want of memory can be met at any
  abbrev pub IsRefusalThere : Client → ObjId → ObjId → (Place → PlaceRequest) → Option PlaceError → Type 0
  IsRefusalThere client parent except request None = Unit {0}
  IsRefusalThere client parent except request (Some e) = (pos : Pos) × Lies client.view parent except (Some pos) × RefusesAt client (request (record { parent = parent; pos = pos })) e

  -- why no such edit is made: no position lies at that end; or one does, and the client refuses the request there
  abbrev pub IsEndError : Client → ObjId → ObjId → (Place → PlaceRequest) → EndError → Type 0
  IsEndError client parent except request error.Crowded = Lies client.view parent except None
  IsEndError client parent except request (error.Edit e) = IsRefusalThere client parent except request (place_refusal e)

-- the number by which such an error is known
abbrev pub end_error_number : EndError → ℕ
end_error_number error.Crowded = error_number local.Crowded
end_error_number (error.Edit e) = place_number_of (place_refusal e)
