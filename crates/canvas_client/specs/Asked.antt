-- What contracts see of stored requests and of refusals.
use Rattle.std.specs.Prelude.{◌≡◌, ℕ, ◌<◌, Option, Some, None, IsSomeAnd}
use Rattle.canvas_model.specs.declared.ObjId.{ObjId}
use Rattle.canvas_model.specs.declared.Kind.{Kind}
use Rattle.canvas_model.specs.Value.{IsShallow}
use Rattle.canvas_model.specs.Document.{Doc, Place, Pos}
use Rattle.canvas_model.specs.Sibling.{IsSibling}
use Rattle.canvas_model.specs.Change.{Change}
use Rattle.canvas_model.specs.Change as change
use Rattle.canvas_model.specs.Client.{Client}
use Rattle.canvas_model.specs.Local.{EditRequest, Create, Set, Clear, Move, Delete, Lands, rank, error_number, Blocks, Refuses, Makes, edited}
use Rattle.canvas_model.specs.Local as local
use Rattle.canvas_model.specs.Standing.{Stands}
use Rattle.canvas_client.specs.declared.error.EditError.{EditError}
use Rattle.canvas_client.specs.declared.error.EditError.TheVariants as error
use Rattle.canvas_client.specs.declared.request.EditRequestVariant.{EditRequestVariant}
use Rattle.canvas_client.specs.declared.request.EditRequestVariant.TheVariants as variant
use Rattle.canvas_client.specs.declared.request.Target.{Target}

-- the target that is stored here
abbrev pub seen_target : Target → local.Target
seen_target target = record { parent = target.parent; after = target.after }

-- the request that is stored here
abbrev pub seen_edit_request : {A : Type 0} → EditRequestVariant A → EditRequest
seen_edit_request (variant.Create kind parent after) = Create kind (record { parent = parent; after = after })
seen_edit_request (variant.Set id name value) = Set id name value
seen_edit_request (variant.Clear id name) = Clear id name
seen_edit_request (variant.Move id parent after) = Move id (record { parent = parent; after = after })
seen_edit_request (variant.Delete id) = Delete id

-- the request holds no value that is too deep
abbrev pub HoldsShallow : EditRequest → Type 0
HoldsShallow (Set id name value) = IsShallow value
HoldsShallow _ = Unit {0}

-- the model's refusal; want of memory is none
abbrev pub refusal : EditError → Option local.EditError
refusal error.NotOpen = Some local.NotOpen
refusal error.IsRoot = Some local.IsRoot
refusal error.NotShown = Some local.NotShown
refusal error.ParentNotShown = Some local.ParentNotShown
refusal error.BadParent = Some local.BadParent
refusal error.OwnDescendant = Some local.OwnDescendant
refusal error.TooDeep = Some local.TooDeep
refusal error.Crowded = Some local.Crowded
refusal error.IdsSpent = Some local.IdsSpent
refusal error.Full = Some local.Full
refusal error.Memory = None

-- the number of a refusal, or that of want of memory
abbrev pub number_of : Option local.EditError → ℕ
number_of None = 10
number_of (Some e) = error_number e

-- no refusal before the n-th holds
abbrev pub NoneBefore : Client → EditRequest → ℕ → Type 0
NoneBefore client r n = (earlier : local.EditError) → rank earlier < n → Blocks client r earlier → ⊥

-- the client refuses the request so; want of memory can be met at any
abbrev pub IsRefusal : Client → EditRequest → Option local.EditError → Type 0
IsRefusal client r None = Unit {0}
IsRefusal client r (Some e) = Refuses client r e

-- the child to come after isn't denied to be another child of that parent
abbrev pub HasAfter : Doc → ObjId → local.Target → Type 0
HasAfter view except target = IsSomeAnd target.after (λ after. (pos : Pos) → IsSibling view target.parent except after pos → ⊥) → ⊥

-- there is no room at the target; want of memory can be met at any
abbrev pub IsCrowded : Doc → ObjId → local.Target → Option local.EditError → Type 0
IsCrowded view except target None = Unit {0}
IsCrowded view except target (Some e) = (e ≡ local.Crowded) × Lands view except target None

-- no refusal of the request holds, and the client has made its change
abbrev pub HasMade : Client → EditRequest → Client → Type 0
HasMade old r new = (change : Change) × Makes old r change × (new ≡ edited old change)

-- the same, where this is the object that was created
abbrev pub HasCreated : Client → EditRequest → ObjId → Client → Type 0
HasCreated old r id new = (kind : Kind) × (place : Place) × Makes old r (change.Create id kind place) × (new ≡ edited old (change.Create id kind place))

-- on each document on which the client stood it stands still
abbrev pub StandsStill : Client → Client → Type 0
StandsStill old new = (d : Doc) → Stands old d → Stands new d
