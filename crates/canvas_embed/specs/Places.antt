-- Edits at places that the caller names, and at the ends of a parent's children, from numbers and bytes.
use Rattle.std.specs.Prelude.{◌≡◌, ℕ, List, Option, Some, None}
use Rattle.canvas_model.specs.declared.ObjId.{ObjId}
use Rattle.canvas_model.specs.declared.Kind.{Kind}
use Rattle.canvas_model.specs.Ids.{root}
use Rattle.canvas_model.specs.Document.{Doc, Place, Pos}
use Rattle.canvas_model.specs.Position.{IsPosition}
use Rattle.canvas_model.specs.Client.{Client}
use Rattle.canvas_model.specs.Standing.{OwnsWaiting, Stands}
use Rattle.canvas_pos.specs.Fault.{IsFault}
use Rattle.canvas_client.specs.Placed.{Create, Move, HasCreatedAt, HasMovedAt, IsRefusalAt, place_refusal}
use Rattle.canvas_client.specs.Ends.{HasCreatedThere, HasMovedThere, IsEndError, LiesFirst, LiesLast}
use Rattle.canvas_embed.specs.Kinds.{kind_of_number}
use Rattle.canvas_embed.specs.declared.fault.CreateAtError.{CreateAtError}
use Rattle.canvas_embed.specs.declared.fault.CreateAtError.TheVariants as create
use Rattle.canvas_embed.specs.declared.fault.MoveAtError.{MoveAtError}
use Rattle.canvas_embed.specs.declared.fault.MoveAtError.TheVariants as move
use Rattle.canvas_embed.specs.declared.fault.CreateEndError.{CreateEndError}
use Rattle.canvas_embed.specs.declared.fault.CreateEndError.TheVariants as end

-- under this parent, at this position
abbrev pub place : ObjId → Pos → Place
place parent pos = record { parent = parent; pos = pos }

-- the bytes are a position, the number is that of a kind, and the client has created this object of it under the parent, at the position
abbrev pub HasCreatedKindAt : Client → ℕ → ObjId → List ℕ → ObjId → Client → Type 0
HasCreatedKindAt old number parent bytes id new = IsPosition bytes × (kind : Kind) × (kind_of_number number ≡ Some kind) × HasCreatedAt old kind (place parent bytes) id new

-- the bytes are a position, and the client has moved the object under the parent, to the position
abbrev pub HasMovedToBytes : Client → ObjId → ObjId → List ℕ → Client → Type 0
HasMovedToBytes old id parent bytes new = IsPosition bytes × HasMovedAt old id (place parent bytes) new

-- why nothing is created at a place: the number is no kind's; it is, and the bytes are no position; both are, and the client refuses the
-- creation there
abbrev pub IsCreateAtError : Client → ℕ → ObjId → List ℕ → CreateAtError → Type 0
IsCreateAtError client number parent bytes create.NoKind = kind_of_number number ≡ None
IsCreateAtError client number parent bytes (create.Position e) = (kind : Kind) × (kind_of_number number ≡ Some kind) × IsFault bytes e
IsCreateAtError client number parent bytes (create.Edit e) =
    (kind : Kind) × (kind_of_number number ≡ Some kind) × IsPosition bytes × IsRefusalAt client (Create kind (place parent bytes)) (place_refusal e)

-- why nothing is moved to a place: the bytes are no position; or they are, and the client refuses the move there
abbrev pub IsMoveAtError : Client → ObjId → ObjId → List ℕ → MoveAtError → Type 0
IsMoveAtError client id parent bytes (move.Position e) = IsFault bytes e
IsMoveAtError client id parent bytes (move.Edit e) = IsPosition bytes × IsRefusalAt client (Move id (place parent bytes)) (place_refusal e)

-- at one of the two ends of a parent's children
module _ (Lies : Doc → ObjId → ObjId → Option Pos → Type 0) where
  -- the number is that of a kind, and the client has created this object of it at that end
  abbrev pub HasCreatedKindThere : Client → ℕ → ObjId → ObjId → Client → Type 0
  HasCreatedKindThere old number parent id new = (kind : Kind) × (kind_of_number number ≡ Some kind) × HasCreatedThere Lies old kind parent id new

  -- why nothing is created at that end: the number is no kind's; or it is, and there is no place, or the client refuses the creation there
  abbrev pub IsCreateEndError : Client → ℕ → ObjId → CreateEndError → Type 0
  IsCreateEndError client number parent end.NoKind = kind_of_number number ≡ None
  IsCreateEndError client number parent (end.Edit e) = (kind : Kind) × (kind_of_number number ≡ Some kind) × IsEndError Lies client parent root (Create kind) e

-- Wherever a client stands whose waiting edits create what is its own, it stands after this, and what they create is its own.
abbrev pub KeepsStanding : Client → Client → Type 0
KeepsStanding old new = (d : Doc) → OwnsWaiting old → Stands old d → OwnsWaiting new × Stands new d

-- So it is after each edit at a place and at an end.
pub record EachPlacedEditKeeps : Type 0 where
  pub created : (old new : Client) (number : ℕ) (parent id : ObjId) (bytes : List ℕ) → HasCreatedKindAt old number parent bytes id new → KeepsStanding old new
  pub moved : (old new : Client) (parent id : ObjId) (bytes : List ℕ) → HasMovedToBytes old id parent bytes new → KeepsStanding old new
  pub created_last : (old new : Client) (number : ℕ) (parent id : ObjId) → HasCreatedKindThere LiesLast old number parent id new → KeepsStanding old new
  pub created_first : (old new : Client) (number : ℕ) (parent id : ObjId) → HasCreatedKindThere LiesFirst old number parent id new → KeepsStanding old new
  pub moved_last : (old new : Client) (parent id : ObjId) → HasMovedThere LiesLast old id parent new → KeepsStanding old new
  pub moved_first : (old new : Client) (parent id : ObjId) → HasMovedThere LiesFirst old id parent new → KeepsStanding old new
