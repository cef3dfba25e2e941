-- Which entries any document can follow.
use Rattle.std.specs.Prelude.{◌≢◌, Some}
use Rattle.std.specs.List.{Contains}
use Rattle.canvas_model.specs.Ids.{root}
use Rattle.canvas_model.specs.Change.{Create, Move, Delete}
use Rattle.canvas_model.specs.Verdict.{Outcome, Created, Moved, Removed, Refused}
use Rattle.canvas_model.specs.State.{State, IsSound}
use Rattle.canvas_model.specs.Log.{What, Edit, Entry}
use Rattle.canvas_model.specs.Messages.{Message}
use Rattle.canvas_model.specs.Messages as messages
use Rattle.canvas_model.specs.Standing.{HasVerdict}

-- what became of what was asked gives the root no place, and doesn't remove it
abbrev pub SparesRoot : What → Outcome → Type 0
SparesRoot (Edit (Create id kind ask)) (Created got) = id ≢ root
SparesRoot (Edit (Move id ask)) (Moved got) = id ≢ root
SparesRoot (Edit (Move id ask)) (Refused reason (Some stands)) = id ≢ root
SparesRoot (Edit (Delete id)) (Removed ids) = Contains ids root → ⊥
SparesRoot _ _ = Unit {0}

-- the entry leaves the root where it is
abbrev pub LeavesRoot : Entry → Type 0
LeavesRoot e = SparesRoot e.what e.outcome

-- a document can follow the message: an entry that is told leaves the root where it is
abbrev pub CanFollow : Message → Type 0
CanFollow (messages.Entry v e) = LeavesRoot e
CanFollow _ = Unit {0}

-- an entry whose outcome is a verdict of a sound state leaves the root where it is
abbrev pub EachVerdictLeavesRoot : Type 0
EachVerdictLeavesRoot = (s : State) (e : Entry) → IsSound s → HasVerdict s e → LeavesRoot e
