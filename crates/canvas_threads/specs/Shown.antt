-- What a client that runs as a node shows of its room.
use Rattle.std.specs.Prelude.{◌≡◌, ℕ, List, length, IsSome, Some}
use Rattle.canvas_model.specs.Change.{Change}
use Rattle.canvas_model.specs.Client.{Client, last_number}
use Rattle.canvas_model.specs.Local.{EditRequest}
use Rattle.canvas_model.specs.Log.{Entry}
use Rattle.canvas_board.specs.Marks.{IsLegalHistory, Mark, Opening}
use Rattle.canvas_threads.specs.Follows.{AreAllOf, AreFirstOf}
use Rattle.canvas_threads.specs.Histories.{FollowsAt, OpensAfter, log_of}
use Rattle.canvas_threads.specs.Exchanges.{HasHeadline, IsUpToDate}
use Rattle.canvas_threads.specs.Worked.{AreMadeOf}

-- The client has joined and has made all edits of these requests that it didn't refuse. It follows what its seat has seen, where no other
-- edit took a number of its edits.
pub record FollowsRoom (o : Opening) (requests : List EditRequest) (seen : List Mark) (client : Client) : Type 0 where
  pub joined : IsSome client.id
  pub edits : List Change
  pub made : AreMadeOf requests edits
  pub count : last_number client ≡ length edits
  pub legal : IsLegalHistory o seen
  pub follows : (past : List Entry) → OpensAfter o past → (c : ℕ) → client.id ≡ Some c → AreFirstOf c edits (log_of past seen) → FollowsAt o past c edits seen client

-- The client follows this history, its acknowledged edits stand there once, and it is up to date.
pub record ShowsAll (o : Opening) (past : List Entry) (c : ℕ) (edits : List Change) (seen : List Mark) (client : Client) : Type 0 where
  pub follows : FollowsAt o past c edits seen client
  pub headline : HasHeadline (log_of past seen) c edits client
  pub up_to_date : IsUpToDate o seen client

-- The client has joined and has made all edits of these requests that it didn't refuse. Its seat has seen one legal history, and the client
-- shows all of that, after whatever past the room opened, where nobody else made an edit under its id.
pub record ShowsTheRoom (o : Opening) (requests : List EditRequest) (client : Client) : Type 0 where
  pub joined : IsSome client.id
  pub edits : List Change
  pub made : AreMadeOf requests edits
  pub count : last_number client ≡ length edits
  pub seen : List Mark
  pub legal : IsLegalHistory o seen
  pub shows : (past : List Entry) → OpensAfter o past → (c : ℕ) → client.id ≡ Some c → AreAllOf c edits (log_of past seen) → ShowsAll o past c edits seen client

-- these edits were asked of the client by this plan
abbrev pub IsAskedOf : {P : Type 0} → (P → ℕ → List EditRequest → Type 0) → P → Client → List EditRequest → Type 0
IsAskedOf asks plan client requests = (c : ℕ) → client.id ≡ Some c → asks plan c requests

-- The client has made what this plan asked of it, and follows so.
pub record HasFollowed {P S : Type 0} (asks : P → ℕ → List EditRequest → Type 0) (follows : List EditRequest → S → Client → Type 0) (plan : P) (site : S) (client : Client) : Type 0 where
  pub requests : List EditRequest
  pub asked : IsAskedOf asks plan client requests
  pub made : follows requests site client

-- the client has kept its id, and shows in the end what it followed
abbrev pub Ends : {S : Type 0} → (List EditRequest → S → Client → Type 0) → (List EditRequest → Client → Type 0) → S → Client → Client → Type 0
Ends follows shows site old new = (new.id ≡ old.id) × ((requests : List EditRequest) → follows requests site old → shows requests new)

-- The client has made what this plan asked of it, and shows the room.
pub record ShowsPlan {P : Type 0} (o : Opening) (asks : P → ℕ → List EditRequest → Type 0) (plan : P) (client : Client) : Type 0 where
  pub requests : List EditRequest
  pub asked : IsAskedOf asks plan client requests
  pub shows : ShowsTheRoom o requests client
