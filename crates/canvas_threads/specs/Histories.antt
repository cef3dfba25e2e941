-- A room's history as a log.
use Rattle.std.specs.Prelude.{◌≡◌, ◌++◌, ℕ, List, [], ◌∷◌, length}
use Rattle.canvas_model.specs.Change.{Change}
use Rattle.canvas_model.specs.State.{opening}
use Rattle.canvas_model.specs.Log.{Entry, fold}
use Rattle.canvas_model.specs.Log as model
use Rattle.canvas_model.specs.Client.{Client}
use Rattle.canvas_model.specs.Messages.{Message}
use Rattle.canvas_server.specs.Served.{Served}
use Rattle.canvas_board.specs.Marks.{Failed, Floor, IsLegalHistory, Logged, Mark, Opening}
use Rattle.canvas_threads.specs.Follows.{FollowsLog, IsTrueFor}

-- the entries of a history, in their order
abbrev pub entries_of : List Mark → List Entry
entries_of [] = []
entries_of (Logged e ∷ marks) = e ∷ entries_of marks
entries_of (Floor v ∷ marks) = entries_of marks
entries_of (Failed ∷ marks) = entries_of marks

-- what a room opened with is what these entries lead to
pub record OpensAfter (o : Opening) (past : List Entry) : Type 0 where
  pub legal : model.IsLegal opening past
  pub state : o.state ≡ fold opening past
  pub version : o.version ≡ length past

-- what a room opens with that begins with nothing
abbrev pub newly_opened : Opening
newly_opened = record { state = opening; version = 0 }

-- what a room opens with that is opened again on what this board holds
abbrev pub reopened : Served → Opening
reopened b = record { state = b.state; version = b.version }

-- the log of a history: the entries before the room opened, and its own
abbrev pub log_of : List Entry → List Mark → List Entry
log_of past seen = past ++ entries_of seen

-- each of these messages tells a client of id c what is true of the log
abbrev pub AreTrueFor : List Entry → ℕ → List Message → Type 0
AreTrueFor log c [] = Unit {0}
AreTrueFor log c (m ∷ ms) = IsTrueFor log c m × AreTrueFor log c ms

-- The client follows what the seat has seen, after this past, under the id c and with these edits.
pub record FollowsAt (o : Opening) (past : List Entry) (c : ℕ) (edits : List Change) (seen : List Mark) (client : Client) : Type 0 where
  pub legal : IsLegalHistory o seen
  pub follows : FollowsLog (log_of past seen) c edits client
