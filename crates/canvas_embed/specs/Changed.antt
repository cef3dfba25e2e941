-- Which objects of a view may have changed.
use Rattle.std.specs.Prelude.{◌≡◌, ◌⊎◌, ℕ, List, [], ◌∷◌, codes}
use Rattle.std.specs.FinMap as map
use Rattle.std.specs.List.{Contains}
use Rattle.canvas_model.specs.declared.ObjId.{ObjId}
use Rattle.canvas_model.specs.Document.{Doc}
use Rattle.canvas_model.specs.Change.{object_of}
use Rattle.canvas_model.specs.Client.{Client}
use Rattle.canvas_model.specs.Log.{What, Join, Edit}
use Rattle.canvas_model.specs.Verdict.{Outcome, Removed}
use Rattle.canvas_model.specs.Messages.{Message}
use Rattle.canvas_model.specs.Receive.{Received, Receives}
use Rattle.canvas_client.specs.Follow.{CanFollow}
use Rattle.canvas_embed.specs.Ids.{EncodesIds}
use Rattle.canvas_embed.specs.declared.changed.Changed.{Changed}
use Rattle.canvas_embed.specs.declared.changed.Changed.TheVariants as changed

-- under every id but these both documents have the same
abbrev pub ChangesOnly : List ObjId → Doc → Doc → Type 0
ChangesOnly ids old new = (q : ObjId) → (Contains ids q → ⊥) → map.get new q ≡ map.get old q

-- the bytes are the text of ids but under which both documents have the same, or they are `null`, and name any object
abbrev pub TellsChanges : List ℕ → Doc → Doc → Type 0
TellsChanges bytes old new = (bytes ≡ codes "null") ⊎ ((ids : List ObjId) × EncodesIds bytes ids × ChangesOnly ids old new)

-- the bytes tell so of the view of whichever client receives the message
abbrev pub TellsOf : List ℕ → Message → Type 0
TellsOf bytes message = (old new : Client) (answer : Received) → (CanFollow message → Receives old message answer new) → TellsChanges bytes old.view new.view

-- the two documents are the same but for these objects, or for any
abbrev pub IsChangedAt : Changed → Doc → Doc → Type 0
IsChangedAt changed.All old new = Unit {0}
IsChangedAt (changed.These ids) old new = ChangesOnly ids.items old new

-- these objects may change in the view of whichever client receives the message
abbrev pub MayChange : Changed → Message → Type 0
MayChange named message = (old new : Client) (answer : Received) → (CanFollow message → Receives old message answer new) → IsChangedAt named old.view new.view

-- the object that an entry is of, or those that it removes
abbrev pub touched : What → Outcome → List ObjId
touched Join outcome = []
touched (Edit change) (Removed ids) = ids
touched (Edit change) outcome = object_of change ∷ []
