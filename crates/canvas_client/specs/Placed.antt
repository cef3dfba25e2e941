-- A client's own edits at a place that the caller names: which it refuses and why, and what change it makes of the others.
use Rattle.std.specs.Prelude.{◌≡◌, ℕ, ◌+◌, ◌^◌, ◌<◌, Option, Some, None}
use Rattle.canvas_model.specs.declared.ObjId.{ObjId}
use Rattle.canvas_model.specs.declared.Kind.{Kind}
use Rattle.canvas_model.specs.Document.{Doc, Place}
use Rattle.canvas_model.specs.Sibling.{IsTaken}
use Rattle.canvas_model.specs.Change.{Change}
use Rattle.canvas_model.specs.Change as change
use Rattle.canvas_model.specs.Client.{Client, last_number}
use Rattle.canvas_model.specs.Local.{EditRequest, EditError, Blocks, edited, error_number, left_out, rank}
use Rattle.canvas_model.specs.Local as local
use Rattle.canvas_model.specs.Standing.{OwnsWaiting, Stands}
use Rattle.canvas_client.specs.declared.error.PlaceError as declared
use Rattle.canvas_client.specs.declared.error.PlaceError.TheVariants as error

-- what a user asks of a client at the very place: a new object of a kind, or a move of an object
pub data PlaceRequest : Type 0 where
  Create : Kind → Place → PlaceRequest
  Move : ObjId → Place → PlaceRequest

-- the place that it asks for
abbrev pub place_asked : PlaceRequest → Place
place_asked (Create kind place) = place
place_asked (Move id place) = place

-- the same request with the position left to the client
abbrev pub unplaced : PlaceRequest → EditRequest
unplaced (Create kind place) = local.Create kind (record { parent = place.parent; after = None })
unplaced (Move id place) = local.Move id (record { parent = place.parent; after = None })

-- why a client refuses such an edit
pub data PlaceError : Type 0 where
  NotOpen : PlaceError
  IsRoot : PlaceError
  NotShown : PlaceError
  ParentNotShown : PlaceError
  BadParent : PlaceError
  OwnDescendant : PlaceError
  TooDeep : PlaceError
  Taken : PlaceError
  IdsSpent : PlaceError
  Full : PlaceError

-- the refusal of the same rank where the position is left to the client: in the place of `Crowded` there is `Taken` here
abbrev pub as_edit_error : PlaceError → EditError
as_edit_error NotOpen = local.NotOpen
as_edit_error IsRoot = local.IsRoot
as_edit_error NotShown = local.NotShown
as_edit_error ParentNotShown = local.ParentNotShown
as_edit_error BadParent = local.BadParent
as_edit_error OwnDescendant = local.OwnDescendant
as_edit_error TooDeep = local.TooDeep
as_edit_error Taken = local.Crowded
as_edit_error IdsSpent = local.IdsSpent
as_edit_error Full = local.Full

-- the number by which a refusal is known
abbrev pub place_error_number : PlaceError → ℕ
place_error_number Taken = 12
place_error_number e = error_number (as_edit_error e)

-- another child of the parent has the position in the view
abbrev pub IsTakenAt : Doc → PlaceRequest → Type 0
IsTakenAt view r = IsTaken view (place_asked r).parent (left_out (unplaced r)) (place_asked r).pos

-- the refusal holds, whether or not an earlier one does; all but `Taken` are those of the request with the position left to the client
abbrev pub BlocksAt : Client → PlaceRequest → PlaceError → Type 0
BlocksAt client r Taken = IsTakenAt client.view r
BlocksAt client r e = Blocks client (unplaced r) (as_edit_error e)

-- the first refusal that holds
abbrev pub RefusesAt : Client → PlaceRequest → PlaceError → Type 0
RefusesAt client r e = BlocksAt client r e × ((earlier : PlaceError) → rank (as_edit_error earlier) < rank (as_edit_error e) → BlocksAt client r earlier → ⊥)

-- the change that a request makes at a client of id c: it has the very place, and a new object gets the next counter
abbrev pub BecomesAt : Client → ℕ → PlaceRequest → Change → Type 0
BecomesAt client c (Create kind place) made = made ≡ change.Create (record { client = c; counter = client.counter + 1 }) kind place
BecomesAt client c (Move id place) made = made ≡ change.Move id place

-- no refusal holds, and this is the change
abbrev pub MakesAt : Client → PlaceRequest → Change → Type 0
MakesAt client r made = ((e : PlaceError) → BlocksAt client r e → ⊥) × (c : ℕ) × (client.id ≡ Some c) × BecomesAt client c r made

-- no refusal holds, and the client has created this object at the place
abbrev pub HasCreatedAt : Client → Kind → Place → ObjId → Client → Type 0
HasCreatedAt old kind place id new = MakesAt old (Create kind place) (change.Create id kind place) × (new ≡ edited old (change.Create id kind place))

-- no refusal holds, and the client has moved the object to the place
abbrev pub HasMovedAt : Client → ObjId → Place → Client → Type 0
HasMovedAt old id place new = MakesAt old (Move id place) (change.Move id place) × (new ≡ edited old (change.Move id place))

-- the model's refusal; want of memory is none
abbrev pub place_refusal : declared.PlaceError → Option PlaceError
place_refusal error.NotOpen = Some NotOpen
place_refusal error.IsRoot = Some IsRoot
place_refusal error.NotShown = Some NotShown
place_refusal error.ParentNotShown = Some ParentNotShown
place_refusal error.BadParent = Some BadParent
place_refusal error.OwnDescendant = Some OwnDescendant
place_refusal error.TooDeep = Some TooDeep
place_refusal error.Taken = Some Taken
place_refusal error.IdsSpent = Some IdsSpent
place_refusal error.Full = Some Full
place_refusal error.Memory = None

-- the number of a refusal, or that of want of memory
abbrev pub place_number_of : Option PlaceError → ℕ
place_number_of None = 10
place_number_of (Some e) = place_error_number e

-- the client refuses the request so; want of memory can be met at any
abbrev pub IsRefusalAt : Client → PlaceRequest → Option PlaceError → Type 0
IsRefusalAt client r None = Unit {0}
IsRefusalAt client r (Some e) = RefusesAt client r e

-- this holds of the request at this place which is that one but for its position
abbrev pub IsSoAt : EditRequest → Place → (PlaceRequest → Type 0) → Type 0
IsSoAt request place P = (r : PlaceRequest) → unplaced r ≡ request → place_asked r ≡ place → P r

-- The change may be the client's next edit: the client has an id, a number is left, and an object that is created gets the id and the
-- next counter.
pub record MayAdd (client : Client) (made : Change) : Type 0 where
  pub id : ℕ
  pub has : client.id ≡ Some id
  pub left : last_number client ≡ 2 ^ 62 → ⊥
  pub new : (q : ObjId) (kind : Kind) (place : Place) → made ≡ change.Create q kind place → (q.client ≡ id) × (q.counter ≡ client.counter + 1)

-- For every document on which the client stands: it stands there after an edit of its own at a place, and what waits is its own.
abbrev pub EachPlacedEditStands : Type 0
EachPlacedEditStands = (d : Doc) (old : Client) (request : PlaceRequest) (made : Change) → OwnsWaiting old → Stands old d → MakesAt old request made
    → OwnsWaiting (edited old made) × Stands (edited old made) d
