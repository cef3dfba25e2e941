-- What an exchange at a seat makes of a client that follows it.
use Rattle.std.specs.Prelude.{◌≡◌, ◌⊎◌, ◌≤◌, ◌<◌, ℕ, List, [], Some}
use Rattle.canvas_model.specs.Change.{Change}
use Rattle.canvas_model.specs.Log.{Entry, at_version}
use Rattle.canvas_model.specs.Numbered.{nth}
use Rattle.canvas_model.specs.Client.{Client, new_client}
use Rattle.canvas_model.specs.Overlay.{over}
use Rattle.canvas_model.specs.Receive.{IsEdit}
use Rattle.canvas_board.specs.Marks.{Mark, Opening, board}
use Rattle.canvas_threads.specs.Follows.{AreAllOf, AreFirstOf}
use Rattle.canvas_threads.specs.Histories.{FollowsAt, OpensAfter, log_of}

-- It shows the document that the seat has seen, and nothing waits.
pub record IsUpToDate (o : Opening) (seen : List Mark) (client : Client) : Type 0 where
  pub version : client.version ≡ (board o seen).version
  pub nothing : client.waiting ≡ []
  pub view : client.view ≡ (board o seen).state.doc

-- The i-th of these edits stands in the log under the id c, at a version up to this one, and no other entry has that author and number.
pub record IsOnceInLog (log : List Entry) (c i reached : ℕ) (edits : List Change) : Type 0 where
  pub version : ℕ
  pub entry : Entry
  pub within : version ≤ reached
  pub stands : nth log version ≡ Some entry
  pub author : entry.author ≡ c
  pub number : entry.seq ≡ i
  pub what : IsEdit entry.what (nth edits i)
  pub once : (v : ℕ) (e : Entry) → nth log v ≡ Some e → e.author ≡ c → e.seq ≡ i → v ≡ version

-- Its view is the document at its version with the waiting edits laid over it, and each acknowledged edit stands once by then.
pub record HasHeadline (log : List Entry) (c : ℕ) (edits : List Change) (client : Client) : Type 0 where
  pub shows : client.view ≡ over (at_version log client.version).doc client.waiting
  pub stands : (i : ℕ) → 0 < i → i ≤ client.acknowledged → IsOnceInLog log c i client.version edits

-- the client follows what the seat has seen as one that has made no edit
abbrev pub FollowsAnew : Opening → List Entry → List Mark → Client → Type 0
FollowsAnew o past seen client = (c : ℕ) × FollowsAt o past c [] seen client

-- a new client that joined follows what the seat has seen then, after whatever past the room opened
abbrev pub JoinsAt : Opening → List Mark → Client → List Mark → Type 0
JoinsAt o before new after = (past : List Entry) → OpensAfter o past → FollowsAnew o past after new

-- where its join broke off, it is still new, or follows
abbrev pub MayJoinAt : Opening → List Mark → Client → List Mark → Type 0
MayJoinAt o before new after = (past : List Entry) → OpensAfter o past → (new ≡ new_client) ⊎ FollowsAnew o past after new

-- this holds of a client that followed what the seat had seen, whose id is its alone in this sense
abbrev pub WhereItFollowed : Opening → Client → List Mark → (List Entry → ℕ → List Change → Type 0) → (List Entry → ℕ → List Change → Type 0) → Type 0
WhereItFollowed o old before Alone P = (past : List Entry) → OpensAfter o past → (c : ℕ) (edits : List Change) → FollowsAt o past c edits before old → Alone past c edits → P past c edits

-- Where no other edit took a number of its edits, it follows what the seat has seen now: it shows the document at its version, with what
-- waits laid over it, and each acknowledged edit stands there once.
abbrev pub KeepsFollowing : Opening → Client → List Mark → Client → List Mark → Type 0
KeepsFollowing o old before new after =
    WhereItFollowed o old before (λ past c edits. AreFirstOf c edits (log_of past after)) (λ past c edits. FollowsAt o past c edits after new × HasHeadline (log_of past after) c edits new)

-- and where nobody else made an edit under its id, it is up to date
abbrev pub CatchesUpAt : Opening → Client → List Mark → Client → List Mark → Type 0
CatchesUpAt o old before new after = WhereItFollowed o old before (λ past c edits. AreAllOf c edits (log_of past after)) (λ past c edits. IsUpToDate o after new)
