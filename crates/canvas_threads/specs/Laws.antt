-- The laws of clients that follow a log.
use Rattle.std.specs.Prelude.{◌≡◌, ◌≤◌, ◌++◌, ℕ, Bool, List, [], ◌∷◌}
use mathlib.Core.List.{IsPrefix}
use Rattle.canvas_model.specs.Change.{Change}
use Rattle.canvas_model.specs.State.{opening}
use Rattle.canvas_model.specs.Log.{Entry, IsLegal}
use Rattle.canvas_model.specs.Client.{Client}
use Rattle.canvas_model.specs.Messages.{Message}
use Rattle.canvas_model.specs.Local.{EditRequest, Makes, edited}
use Rattle.canvas_client.specs.Placed.{MakesAt, PlaceRequest}
use Rattle.canvas_shelf.specs.Disk.{Content}
use Rattle.canvas_journal.specs.Meaning.{Versioned}
use Rattle.canvas_server.specs.Asked.{Asked}
use Rattle.canvas_board.specs.Marks.{Mark, Opening, SeesHistory, board}
use Rattle.canvas_desk.specs.Crashes.{IsAtRest, LeadsByCalls}
use Rattle.canvas_desk.specs.Desks.{DeskValue}
use Rattle.canvas_desk.specs.Ready.{at}
use Rattle.canvas_nodes.specs.Hears.{HearsOne}
use Rattle.canvas_threads.specs.Follows.{AreFirstOf, FollowsLog, IsTrueFor}
use Rattle.canvas_threads.specs.Histories.{FollowsAt, OpensAfter, log_of, newly_opened, reopened}
use Rattle.canvas_threads.specs.Exchanges.{HasHeadline}

-- a client whose numbers no other edit took under its id goes on to follow the log by each message that is true of it
abbrev pub EachTruthIsFollowed : Type 0
EachTruthIsFollowed = (log : List Entry) → IsLegal opening log → (c : ℕ) (edits : List Change) → AreFirstOf c edits log → (old : Client) → FollowsLog log c edits old
    → (m : Message) → IsTrueFor log c m → (new : Client) → HearsOne old m new → FollowsLog log c edits new × (old.version ≤ new.version)

-- and by each edit of its own
abbrev pub EachEditIsFollowed : Type 0
EachEditIsFollowed = (log : List Entry) → IsLegal opening log → (c : ℕ) (edits : List Change) (old : Client) → FollowsLog log c edits old
    → (request : EditRequest) (change : Change) → Makes old request change → FollowsLog log c (edits ++ change ∷ []) (edited old change)

-- and by each edit of its own at a place that the caller names
abbrev pub EachPlacedEditIsFollowed : Type 0
EachPlacedEditIsFollowed = (log : List Entry) → IsLegal opening log → (c : ℕ) (edits : List Change) (old : Client) → FollowsLog log c edits old
    → (request : PlaceRequest) (change : Change) → MakesAt old request change → FollowsLog log c (edits ++ change ∷ []) (edited old change)

-- it shows the document at its version with what waits laid over it, and its acknowledged edits stand in the log once
abbrev pub EachFollowerShows : Type 0
EachFollowerShows = (log : List Entry) → IsLegal opening log → (c : ℕ) (edits : List Change) → AreFirstOf c edits log → (client : Client) → FollowsLog log c edits client → HasHeadline log c edits client

-- two clients at one version of a log with nothing waiting show equal documents
abbrev pub FollowersAgree : Type 0
FollowersAgree = (log : List Entry) (b c : ℕ) (made others : List Change) (client other : Client) → FollowsLog log b made client → FollowsLog log c others other
    → client.version ≡ other.version → client.waiting ≡ [] → other.waiting ≡ [] → client.view ≡ other.view

-- What is found is the board of a legal history that begins with what the seat had seen, and the client's acknowledged edits stand there
-- once. A room that opens again on it opens after a legal log, which the client follows still.
pub record FindsAcknowledged (o : Opening) (finds : Content → Versioned → Type 0) (past : List Entry) (c : ℕ) (edits : List Change) (seen : List Mark) (client : Client) (left : Content) : Type 0 where
  pub history : List Mark
  pub begins : SeesHistory o seen history
  pub found : finds left (at (board o history))
  pub headline : HasHeadline (log_of past history) c edits client
  pub opens : OpensAfter (reopened (board o history)) (log_of past history)
  pub follows : FollowsAt (reopened (board o history)) (log_of past history) c edits [] client

-- a room that begins with nothing opens after no entries
abbrev pub NewRoomOpens : Type 0
NewRoomOpens = OpensAfter newly_opened []

module _ {K : Type 0} (o : Opening) (honest : K → Bool) (moment : K → ℕ) (left_since : K → ℕ → Content → Type 0) (finds : Content → Versioned → Type 0) (keeps : K → Versioned → List Entry → List Entry → Type 0) where
  -- whatever calls are made from a desk at rest on, this is found after any crash since then, where the seat had seen what was due
  abbrev pub EachAcknowledgedIsFound : Type 0
  EachAcknowledgedIsFound = (start d : DeskValue K) (calls : List (List Asked)) (seen : List Mark) (left : Content) → IsAtRest o honest moment left_since finds keeps start → LeadsByCalls o honest moment left_since finds start calls d
      → IsPrefix seen start.due → left_since d.keeper (moment start.keeper) left
      → (past : List Entry) → OpensAfter o past → (c : ℕ) (edits : List Change) (client : Client) → FollowsAt o past c edits seen client → AreFirstOf c edits (log_of past seen)
      → FindsAcknowledged o finds past c edits seen client left
