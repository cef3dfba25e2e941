-- Edits at a place keep a client standing where it stood.
use Rattle.std.proofs.Common.{◌≡◌, ℕ, List, Option, sym, subst}
use Rattle.canvas_model.specs.declared.ObjId.{ObjId}
use Rattle.canvas_model.specs.Document.{Doc, Pos}
use Rattle.canvas_model.specs.Change.{Change}
use Rattle.canvas_model.specs.Change as change
use Rattle.canvas_model.specs.Client.{Client}
use Rattle.canvas_model.specs.Local.{edited}
use Rattle.canvas_model.specs.Standing.{OwnsWaiting, Stands}
use Rattle.canvas_client.specs.Placed.{PlaceRequest, Create, Move, EachPlacedEditStands, MakesAt}
use Rattle.canvas_client.specs.Ends.{HasMovedThere, LiesFirst, LiesLast}
use Rattle.canvas_embed.specs.Places.{EachPlacedEditKeeps, HasCreatedKindAt, HasCreatedKindThere, HasMovedToBytes, KeepsStanding, place}

module _ (each : EachPlacedEditStands) where
  keeps : (old new : Client) (request : PlaceRequest) (made : Change) → MakesAt old request made → new ≡ edited old made → KeepsStanding old new
  keeps old new request made makes is d owns stood = subst (λ c. OwnsWaiting c × Stands c d) (sym is) (each d old request made owns stood makes)

  created_keeps : (old new : Client) (number : ℕ) (parent id : ObjId) (bytes : List ℕ) → HasCreatedKindAt old number parent bytes id new → KeepsStanding old new
  created_keeps old new number parent id bytes (position, kind, of, (makes, is)) = keeps old new (Create kind (place parent bytes)) (change.Create id kind (place parent bytes)) makes is

  moved_keeps : (old new : Client) (parent id : ObjId) (bytes : List ℕ) → HasMovedToBytes old id parent bytes new → KeepsStanding old new
  moved_keeps old new parent id bytes (position, (makes, is)) = keeps old new (Move id (place parent bytes)) (change.Move id (place parent bytes)) makes is

  created_there_keeps : (Lies : Doc → ObjId → ObjId → Option Pos → Type 0) (old new : Client) (number : ℕ) (parent id : ObjId) → HasCreatedKindThere Lies old number parent id new → KeepsStanding old new
  created_there_keeps Lies old new number parent id (kind, of, (pos, lies, (makes, is))) = keeps old new (Create kind (place parent pos)) (change.Create id kind (place parent pos)) makes is

  moved_there_keeps : (Lies : Doc → ObjId → ObjId → Option Pos → Type 0) (old new : Client) (parent id : ObjId) → HasMovedThere Lies old id parent new → KeepsStanding old new
  moved_there_keeps Lies old new parent id (pos, lies, (makes, is)) = keeps old new (Move id (place parent pos)) (change.Move id (place parent pos)) makes is

-- the law of edits from numbers and bytes
pub each_placed_edit_keeps : EachPlacedEditStands → EachPlacedEditKeeps
each_placed_edit_keeps each = record {
  created = created_keeps each;
  moved = moved_keeps each;
  created_last = created_there_keeps each LiesLast;
  created_first = created_there_keeps each LiesFirst;
  moved_last = moved_there_keeps each LiesLast;
  moved_first = moved_there_keeps each LiesFirst;
}
