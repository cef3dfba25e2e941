-- A client's own edits: which it refuses and why, and what change it makes of the others.
use Rattle.std.specs.Prelude.{◌≡◌, ◌⊎◌, ℕ, ◌+◌, ◌^◌, ◌<◌, [], ◌∷◌, ◌++◌, Option, Some, None, IsSomeAnd}
use Rattle.canvas_model.specs.declared.ObjId.{ObjId}
use Rattle.canvas_model.specs.declared.Kind.{Kind}
use Rattle.canvas_model.specs.Ids.{root}
use Rattle.canvas_model.specs.Middle.{Middle}
use Rattle.canvas_model.specs.Value.{Value}
use Rattle.canvas_model.specs.Document.{Pos, Name, Doc, kind_of}
use Rattle.canvas_model.specs.Chain.{Below, InTree}
use Rattle.canvas_model.specs.Depth.{IsTooDeepUnder, MovesTooDeep}
use Rattle.canvas_model.specs.Sibling.{IsSibling, IsNext}
use Rattle.canvas_model.specs.Change.{Change}
use Rattle.canvas_model.specs.Overlay.{lay}
use Rattle.canvas_model.specs.Verdict.{MayNotStand}
use Rattle.canvas_model.specs.Client.{Client, last_number}

-- where an object is to stand: its parent, and the child that it comes after, or none to come first
pub record Target : Type 0 where
  pub parent : ObjId
  pub after : Option ObjId

-- what a user asks of a client
pub data EditRequest : Type 0 where
  Create : Kind → Target → EditRequest
  Set : ObjId → Name → Value → EditRequest
  Clear : ObjId → Name → EditRequest
  Move : ObjId → Target → EditRequest
  Delete : ObjId → EditRequest

-- why a client refuses an edit
pub data EditError : Type 0 where
  NotOpen : EditError
  IsRoot : EditError
  NotShown : EditError
  ParentNotShown : EditError
  BadParent : EditError
  OwnDescendant : EditError
  TooDeep : EditError
  Crowded : EditError
  IdsSpent : EditError
  Full : EditError

-- the order in which the refusals are looked for, which isn't that of their numbers
abbrev pub rank : EditError → ℕ
rank NotOpen = 0
rank IsRoot = 1
rank NotShown = 2
rank ParentNotShown = 3
rank BadParent = 4
rank OwnDescendant = 5
rank TooDeep = 6
rank Crowded = 7
rank IdsSpent = 8
rank Full = 9

-- the number by which a refusal is known, whatever its rank
abbrev pub error_number : EditError → ℕ
error_number NotOpen = 1
error_number NotShown = 2
error_number ParentNotShown = 3
error_number BadParent = 4
error_number OwnDescendant = 5
error_number Crowded = 6
error_number IsRoot = 7
error_number IdsSpent = 8
error_number Full = 9
error_number TooDeep = 11

-- the object that the request names; one to be created has no id yet
abbrev pub subject : EditRequest → Option ObjId
subject (Create kind target) = None
subject (Set id name value) = Some id
subject (Clear id name) = Some id
subject (Move id target) = Some id
subject (Delete id) = Some id

-- the target that it asks for
abbrev pub target_asked : EditRequest → Option Target
target_asked (Create kind target) = Some target
target_asked (Move id target) = Some target
target_asked _ = None

-- the kind of what is to stand there
abbrev pub kind_asked : Doc → EditRequest → Option Kind
kind_asked view (Create kind target) = Some kind
kind_asked view (Move id target) = kind_of view id
kind_asked view _ = None

-- the object that isn't counted among the siblings: the moved one, and for a new one the root, which is nobody's child
abbrev pub left_out : EditRequest → ObjId
left_out (Move id target) = id
left_out _ = root

-- the request moves or deletes the root
abbrev pub MovesRoot : EditRequest → Type 0
MovesRoot (Move id target) = id ≡ root
MovesRoot (Delete id) = id ≡ root
MovesRoot _ = ⊥

-- the named object isn't in the view's tree
abbrev pub IsHidden : Doc → EditRequest → Type 0
IsHidden view r = IsSomeAnd (subject r) (λ id. InTree view id → ⊥)

-- the child to come after is no other child of that parent
abbrev pub ComesAfterNone : Doc → EditRequest → Type 0
ComesAfterNone view r = IsSomeAnd (target_asked r) (λ target. IsSomeAnd target.after (λ after. (pos : Pos) → IsSibling view target.parent (left_out r) after pos → ⊥))

-- the new parent is the moved object or lies below it
abbrev pub GoesBelowItself : Doc → EditRequest → Type 0
GoesBelowItself view (Move id target) = Below view target.parent id
GoesBelowItself view _ = ⊥

-- the new object, or the moved one or something below it, would stand too deep in the view
abbrev pub GoesTooDeep : Doc → EditRequest → Type 0
GoesTooDeep view (Create kind target) = IsTooDeepUnder view target.parent
GoesTooDeep view (Move id target) = MovesTooDeep view id target.parent
GoesTooDeep view _ = ⊥

-- the position of the child to come after, or none to come first
abbrev pub IsPosAfter : Doc → ObjId → ObjId → Option ObjId → Option Pos → Type 0
IsPosAfter view parent except None low = low ≡ None
IsPosAfter view parent except (Some after) low = (pos : Pos) × (low ≡ Some pos) × IsSibling view parent except after pos

-- the position at a target: the middle between that child and the next, or none where there is no room
abbrev pub Lands : Doc → ObjId → Target → Option Pos → Type 0
Lands view except target got = (low : Option Pos) × (high : Option Pos) × IsPosAfter view target.parent except target.after low × IsNext view target.parent except low high × Middle low high got

-- the request creates an object
abbrev pub IsCreate : EditRequest → Type 0
IsCreate (Create kind target) = Unit {0}
IsCreate _ = ⊥

-- the refusal holds, whether or not an earlier one does
abbrev pub Blocks : Client → EditRequest → EditError → Type 0
Blocks client r NotOpen = client.id ≡ None
Blocks client r IsRoot = MovesRoot r
Blocks client r NotShown = IsHidden client.view r ⊎ ComesAfterNone client.view r
Blocks client r ParentNotShown = IsSomeAnd (target_asked r) (λ target. InTree client.view target.parent → ⊥)
Blocks client r BadParent = IsSomeAnd (target_asked r) (λ target. MayNotStand (kind_asked client.view r) (kind_of client.view target.parent))
Blocks client r OwnDescendant = GoesBelowItself client.view r
Blocks client r TooDeep = GoesTooDeep client.view r
Blocks client r Crowded = IsSomeAnd (target_asked r) (λ target. Lands client.view (left_out r) target None)
Blocks client r IdsSpent = IsCreate r × (client.counter ≡ 4294967295)
Blocks client r Full = last_number client ≡ 2 ^ 62

-- the first refusal that holds
abbrev pub Refuses : Client → EditRequest → EditError → Type 0
Refuses client r error = Blocks client r error × ((earlier : EditError) → rank earlier < rank error → Blocks client r earlier → ⊥)

-- the change that a request makes at a client of id c: a new object gets the next counter
abbrev pub Becomes : Client → ℕ → EditRequest → Change → Type 0
Becomes client c (Create kind target) change =
    (pos : Pos) × Lands client.view root target (Some pos) × (change ≡ Change.Create (record { client = c; counter = client.counter + 1 }) kind (record { parent = target.parent; pos = pos }))
Becomes client c (Set id name value) change = change ≡ Change.Set id name (Some value)
Becomes client c (Clear id name) change = change ≡ Change.Set id name None
Becomes client c (Move id target) change = (pos : Pos) × Lands client.view id target (Some pos) × (change ≡ Change.Move id (record { parent = target.parent; pos = pos }))
Becomes client c (Delete id) change = change ≡ Change.Delete id

-- no refusal holds, and this is the change
abbrev pub Makes : Client → EditRequest → Change → Type 0
Makes client r change = ((error : EditError) → Blocks client r error → ⊥) × (c : ℕ) × (client.id ≡ Some c) × Becomes client c r change

-- a creation raises the counter
abbrev pub counter_after : ℕ → Change → ℕ
counter_after counter (Change.Create id kind place) = id.counter
counter_after counter _ = counter

-- the client after an edit of its own: the change waits, and is laid over the view
abbrev pub edited : Client → Change → Client
edited client change = record {
  id = client.id;
  counter = counter_after client.counter change;
  version = client.version;
  acknowledged = client.acknowledged;
  waiting = client.waiting ++ change ∷ [];
  view = lay client.view change;
}
