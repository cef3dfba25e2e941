-- What a client does with a message, and what it sends.
use Rattle.std.specs.Prelude.{◌≡◌, ℕ, ◌+◌, Some, drop}
use Rattle.canvas_model.specs.Document.{Doc}
use Rattle.canvas_model.specs.Change.{Change}
use Rattle.canvas_model.specs.Overlay.{over}
use Rattle.canvas_model.specs.State.{State, IsSound}
use Rattle.canvas_model.specs.Log.{effect}
use Rattle.canvas_model.specs.Client.{Client}
use Rattle.canvas_model.specs.Numbered.{nth}
use Rattle.canvas_model.specs.Messages.{Message, Welcome}
use Rattle.canvas_model.specs.Messages as messages
use Rattle.canvas_model.specs.Receive.{Received, Took, Receives}
use Rattle.canvas_model.specs.Standing.{Stands, HasVerdict, MeetsOwn}
use Rattle.canvas_model.specs.Laws.{HasNoneOf}

-- the client with this view
abbrev pub showing : Doc → Client → Client
showing view client = record client { view = view }

-- the client at this version, with so many of its waiting edits judged
abbrev pub past : Client → ℕ → ℕ → Client
past client count v = record client { version = v; acknowledged = client.acknowledged + count; waiting = drop count client.waiting }

-- what a client answers a message, and what it is afterwards but for its view
abbrev pub ReceivesApart : Client → Message → Received → Client → Type 0
ReceivesApart old message answer new = (view : Doc) × Receives old message answer (showing view new)

-- On every document on which the client stood, it stands after a message that it took: after an entry that is a verdict of a sound state
-- with that document, on the document after it; after an id that has no object there, on the same. After a copy it shows that copy.
abbrev pub StaysUpright : Client → Message → Received → Client → Type 0
StaysUpright old (messages.Entry v e) Took new = (s : State) → IsSound s → HasVerdict s e → MeetsOwn old e → Stands old s.doc → Stands new (effect s e).doc
StaysUpright old (Welcome c) Took new = (d : Doc) → HasNoneOf c d → Stands old d → Stands new d
StaysUpright old (messages.Copy v n d) Took new = new.view ≡ over d new.waiting
StaysUpright old message answer new = Unit {0}

-- the message sends the i-th edit that waits, under the client's id and the edit's number
abbrev pub IsWaiting : Client → ℕ → Message → Type 0
IsWaiting client i message = (c : ℕ) × (change : Change) × (client.id ≡ Some c) × (nth client.waiting i ≡ Some change) × (message ≡ messages.Edit c (client.acknowledged + i) change)

-- unless the client took the message, nothing has changed
abbrev pub ChangesOnlyWhereTook : Client → Received → Client → Type 0
ChangesOnlyWhereTook old Took new = Unit {0}
ChangesOnlyWhereTook old answer new = new ≡ old
