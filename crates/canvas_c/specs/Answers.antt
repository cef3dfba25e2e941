-- What each call answers, and what it leaves.
use Rattle.std.specs.Prelude.{◌≡◌, ℕ, ◌<◌, ◌≤◌, ◌++◌, ◌⊎◌, List, [], length, drop, Option, Some, None, false}
use Rattle.canvas_model.specs.declared.ObjId.{ObjId}
use Rattle.canvas_model.specs.Chain.{InTree}
use Rattle.canvas_model.specs.Client.{Client, new_client}
use Rattle.canvas_model.specs.Document.{Doc, Pos, live}
use Rattle.canvas_model.specs.Local.{Target, Move, Delete}
use Rattle.canvas_model.specs.Messages.{Join}
use Rattle.canvas_client.specs.Asked.{HasMade, IsRefusal, StandsStill, refusal}
use Rattle.canvas_client.specs.Ends.{HasMovedThere, IsEndError, end_error_number}
use Rattle.canvas_client.specs.Kept.{IsKept}
use Rattle.canvas_client.specs.Placed as placed
use Rattle.canvas_wire.specs.Text.{EncodesMessage, IsMessageError}
use Rattle.canvas_wire.specs.declared.fault.WireError.{WireError}
use Rattle.canvas_embed.specs.declared.fault.LoadError.{LoadError}
use Rattle.canvas_embed.specs.declared.fault.ResumeError.{ResumeError}
use Rattle.canvas_embed.specs.declared.heard.Heard.{Heard}
use Rattle.canvas_embed.specs.declared.resuming.Resumed.{Resumed}
use Rattle.canvas_embed.specs.Changed.{TellsChanges}
use Rattle.canvas_embed.specs.Edits.{HasCleared, HasCreatedKind, HasSet}
use Rattle.canvas_embed.specs.Faults.{IsClearError, IsCreateError, IsSetError}
use Rattle.canvas_embed.specs.Messages.{HasHeard, IsAskText, IsEditText}
use Rattle.canvas_embed.specs.Objects.{IsChildrenText, IsObjectText}
use Rattle.canvas_embed.specs.Places.{HasCreatedKindAt, HasCreatedKindThere, HasMovedToBytes, IsCreateAtError, IsCreateEndError, IsMoveAtError}
use Rattle.canvas_embed.specs.Resuming.{HasResumed, IsResumeError, MayResume}
use Rattle.canvas_embed.specs.Saves.{EncodesClient, IsLoadError, SpellsClient}
use Rattle.canvas_embed.specs.Trees.{IsTreeText}
use Rattle.canvas_c.specs.declared.ids.ObjectId.{ObjectId}
use Rattle.canvas_c.specs.declared.session.Session.{Session}
use Rattle.canvas_c.specs.Ids.{object_told}
use Rattle.canvas_c.specs.Numbers.{call_done, not_shown, memory, held, nothing, no_room, no_client}
use Rattle.canvas_c.specs.Numbers.{edit_number, create_number, create_at_number, move_at_number, create_end_number, set_number, clear_number, wire_number, heard_number, load_number, resume_number, resumed_number}

-- a client without an id, and nothing is left to be read
abbrev pub IsNewSession : Session → Type 0
IsNewSession s = (s.client ≡ new_client) × (s.left.items ≡ [])

-- a new session is held; or one was held already, or memory was refused, and nothing has changed
abbrev pub NewAnswer : ℕ → Option Session → Option Session → Type 0
NewAnswer n None (Some new) = (n ≡ call_done) × IsNewSession new
NewAnswer n None None = n ≡ memory
NewAnswer n (Some old) new = (n ≡ held) × (new ≡ Some old)

-- the client is the one of which the bytes are a text, and nothing is left to be read
abbrev pub IsLoaded : List ℕ → Session → Type 0
IsLoaded bytes s = SpellsClient bytes s.client × (s.left.items ≡ [])

-- a session is held of the client of which the bytes are the text; or they are none, and this is why; or one was held already: then nothing
-- has changed. Bytes that a client could be are refused for want of memory alone.
abbrev pub LoadAnswer : List ℕ → ℕ → Option Session → Option Session → Type 0
LoadAnswer bytes n None (Some new) = (n ≡ call_done) × IsLoaded bytes new × ((client : Client) → SpellsClient bytes client → new.client ≡ client)
LoadAnswer bytes n None None =
    (e : LoadError) × (n ≡ load_number e) × IsLoadError bytes e × ((client : Client) → SpellsClient bytes client → IsKept client → n ≡ memory)
LoadAnswer bytes n (Some old) new = (n ≡ held) × (new ≡ Some old)

-- the session that was held has ended, or none was held
abbrev pub FreeAnswer : ℕ → Option Session → Option Session → Type 0
FreeAnswer n (Some old) new = (n ≡ call_done) × (new ≡ None)
FreeAnswer n None new = (n ≡ no_client) × (new ≡ None)

-- the bytes are a text of a message, and that is what the client has received and what is told; or they are none, this is why, and nothing
-- has changed
abbrev pub ReceiveAnswer : List ℕ → ℕ → Session → Session → Type 0
ReceiveAnswer bytes n old new =
    ((heard : Heard) × (n ≡ heard_number heard) × HasHeard old.client bytes heard new.client × (new.left ≡ old.left))
    ⊎ ((e : WireError) × (n ≡ wire_number e) × IsMessageError bytes e × (new ≡ old))

-- the same, and the bytes that are left tell which objects of the view may have changed
abbrev pub TellAnswer : List ℕ → ℕ → Session → Session → Type 0
TellAnswer bytes n old new =
    ((heard : Heard) × (n ≡ heard_number heard) × HasHeard old.client bytes heard new.client × TellsChanges new.left.items old.client.view new.client.view)
    ⊎ ((e : WireError) × (n ≡ wire_number e) × IsMessageError bytes e × (new ≡ old))

-- the bytes spell an edit of the client's own, which is its last one now, or which it had; or they don't, or it can't be the next one: this is
-- why, and nothing has changed. An edit that can be the next one, or that it had, fails only for memory.
abbrev pub ResumeAnswer : List ℕ → ℕ → Session → Session → Type 0
ResumeAnswer bytes n old new =
    ((told : Resumed) × (n ≡ resumed_number told) × HasResumed old.client bytes told new.client × (new.left ≡ old.left))
    ⊎ ((e : ResumeError) × (n ≡ resume_number e) × IsResumeError old.client bytes e × (MayResume old.client bytes → n ≡ memory) × (new ≡ old))

-- the client has made the edit, and stands where it stood; or this is why it hasn't, and nothing has changed
abbrev pub EditAnswer : {E : Type 0} → (E → ℕ) → (Client → Client → Type 0) → (Client → E → Type 0) → ℕ → Session → Session → Type 0
EditAnswer {E} number Made IsError n old new =
    ((n ≡ call_done) × Made old.client new.client × StandsStill old.client new.client × (new.left ≡ old.left))
    ⊎ ((e : E) × (n ≡ number e) × IsError old.client e × (new ≡ old))

-- the same of a creation: `made` is the id that the object got, or as it was
abbrev pub CreateAnswer : ℕ → Target → ObjectId → ObjectId → ℕ → Session → Session → Type 0
CreateAnswer kind target was made =
    EditAnswer create_number (λ old new. HasCreatedKind old kind target (object_told made) new) (λ old e. IsCreateError old kind target e × (made ≡ was))

abbrev pub SetAnswer : ObjId → List ℕ → List ℕ → ℕ → Session → Session → Type 0
SetAnswer id name json = EditAnswer set_number (λ old new. HasSet old id name json new) (λ old e. IsSetError old id name json e)

abbrev pub ClearAnswer : ObjId → List ℕ → ℕ → Session → Session → Type 0
ClearAnswer id name = EditAnswer clear_number (λ old new. HasCleared old id name new) (λ old e. IsClearError old id name e)

abbrev pub MoveAnswer : ObjId → Target → ℕ → Session → Session → Type 0
MoveAnswer id target = EditAnswer edit_number (λ old new. HasMade old (Move id target) new) (λ old e. IsRefusal old (Move id target) (refusal e))

abbrev pub DeleteAnswer : ObjId → ℕ → Session → Session → Type 0
DeleteAnswer id = EditAnswer edit_number (λ old new. HasMade old (Delete id) new) (λ old e. IsRefusal old (Delete id) (refusal e))

-- edits at a position that is named
abbrev pub CreateAtAnswer : ℕ → ObjId → List ℕ → ObjectId → ObjectId → ℕ → Session → Session → Type 0
CreateAtAnswer kind parent position was made =
    EditAnswer create_at_number (λ old new. HasCreatedKindAt old kind parent position (object_told made) new) (λ old e. IsCreateAtError old kind parent position e × (made ≡ was))

abbrev pub MoveAtAnswer : ObjId → ObjId → List ℕ → ℕ → Session → Session → Type 0
MoveAtAnswer id parent position = EditAnswer move_at_number (λ old new. HasMovedToBytes old id parent position new) (λ old e. IsMoveAtError old id parent position e)

-- edits at one of the two ends of the parent's children
module _ (Lies : Doc → ObjId → ObjId → Option Pos → Type 0) where
  abbrev pub CreateThereAnswer : ℕ → ObjId → ObjectId → ObjectId → ℕ → Session → Session → Type 0
  CreateThereAnswer kind parent was made =
      EditAnswer create_end_number (λ old new. HasCreatedKindThere Lies old kind parent (object_told made) new) (λ old e. IsCreateEndError Lies old kind parent e × (made ≡ was))

  abbrev pub MoveThereAnswer : ObjId → ObjId → ℕ → Session → Session → Type 0
  MoveThereAnswer id parent = EditAnswer end_error_number (λ old new. HasMovedThere Lies old id parent new) (λ old e. IsEndError Lies old parent id (placed.Move id) e)

-- the text is left; or there is none, and this is why; or memory was refused. The client is as it was, and unless a text is left, all is
abbrev pub TextAnswer : (List ℕ → Type 0) → Type 0 → ℕ → Session → Session → Type 0
TextAnswer IsText IsNone n old new =
    ((n ≡ call_done) × IsText new.left.items × (new.client ≡ old.client)) ⊎ (((n ≡ nothing) × IsNone × (new ≡ old)) ⊎ ((n ≡ memory) × (new ≡ old)))

abbrev pub JoinAnswer : ℕ → Session → Session → Type 0
JoinAnswer n old new = TextAnswer (λ text. EncodesMessage text Join) ⊥ n old new

abbrev pub AskAnswer : ℕ → Session → Session → Type 0
AskAnswer n old new = TextAnswer (IsAskText old.client) (old.client.id ≡ None) n old new

-- i counts the edits that wait from 1
abbrev pub WaitingAnswer : ℕ → ℕ → Session → Session → Type 0
WaitingAnswer i n old new = TextAnswer (IsEditText old.client i) (0 < i → i ≤ length old.client.waiting → ⊥) n old new

abbrev pub TreeAnswer : ℕ → Session → Session → Type 0
TreeAnswer n old new = TextAnswer (IsTreeText old.client) ⊥ n old new

-- the row of an object that the view has
abbrev pub ObjectAnswer : ObjId → ℕ → Session → Session → Type 0
ObjectAnswer id n old new = TextAnswer (IsObjectText old.client id) (live old.client.view id ≡ false) n old new

abbrev pub ChildrenAnswer : ObjId → ℕ → Session → Session → Type 0
ChildrenAnswer id n old new = TextAnswer (IsChildrenText old.client id) ⊥ n old new

abbrev pub SaveAnswer : ℕ → Session → Session → Type 0
SaveAnswer n old new = TextAnswer (λ text. EncodesClient text old.client) ⊥ n old new

-- the object is in the tree that the client shows, or it isn't
abbrev pub InTreeAnswer : ObjId → ℕ → Session → Session → Type 0
InTreeAnswer id n old new = (new ≡ old) × (((n ≡ call_done) × InTree old.client.view id) ⊎ ((n ≡ not_shown) × (InTree old.client.view id → ⊥)))

-- what was left stands at the start of the room, and behind it the room is as it was; or it is longer than the room, which is as it was
abbrev pub ReadAnswer : List ℕ → List ℕ → ℕ → Session → Session → Type 0
ReadAnswer was room n old new =
    (new ≡ old) × (((n ≡ call_done) × (room ≡ old.left.items ++ drop (length old.left.items) was)) ⊎ ((n ≡ no_room) × (length was < length old.left.items) × (room ≡ was)))
