-- What a seat is told of its request.
use Rattle.std.specs.Prelude.{◌≡◌, ◌≤◌, ◌<◌, ◌+◌, ℕ, Bool, true, false, cond, List, Result, Ok, Err}
use mathlib.Core.List.{IsPrefix}
use Rattle.canvas_model.specs.Log.{What, Join, Edit, Entry}
use Rattle.canvas_model.specs.Verdict.{Joined, Outcome}
use Rattle.canvas_journal.specs.declared.fault.KeepError.TheVariants.{Device, Failed, Memory, TooLarge}
use Rattle.canvas_server.specs.Asked.{Asked}
use Rattle.canvas_board.specs.Marks.{IsLegalHistory, Mark, Opening, SeesHistory, TellsFailure, board}
use Rattle.canvas_board.specs.Receipts.{ReceiptValue, EndsWith}
use Rattle.canvas_desk.specs.declared.faults.Refusal.TheVariants.{Stranger, Repeat, Gap}
use Rattle.canvas_desk.specs.declared.faults.SubmitError.{SubmitError}
use Rattle.canvas_desk.specs.declared.faults.SubmitError.TheVariants.{Refused, NotKept, Owed}
use Rattle.canvas_desk.specs.Judging.{RefusesRequest}

-- what was asked for is an edit
abbrev pub AsksForEdit : What → Type 0
AsksForEdit Join = ⊥
AsksForEdit (Edit change) = Unit {0}

-- a Join's outcome is that some client joined
abbrev pub IsOutcomeOf : What → Outcome → Type 0
IsOutcomeOf Join outcome = (client : ℕ) × (outcome ≡ Joined client)
IsOutcomeOf (Edit change) outcome = Unit {0}

-- The entry is what the request asked for.
pub record Answers (q : Asked) (e : Entry) : Type 0 where
  pub author_is : e.author ≡ q.author
  pub seq_is : e.seq ≡ q.seq
  pub what_is : e.what ≡ q.what
  pub outcome_is : IsOutcomeOf q.what e.outcome

-- The entry answers the request, and ends a legal history that begins with what was seen, above every version that was seen.
pub record IsTold (o : Opening) (seen : List Mark) (q : Asked) (r : ReceiptValue) : Type 0 where
  pub answers : Answers q r.entry
  pub ends : EndsWith o r.history r.entry r.version
  pub sees : SeesHistory o seen r.history
  pub above : (board o seen).version < r.version

-- a stranger, a repeat and a gap are edits; a repeat is one by a number that was judged, a gap one by a number above the next
abbrev pub RefusesEdit : Asked → SubmitError → Type 0
RefusesEdit q (Refused Stranger) = AsksForEdit q.what
RefusesEdit q (Refused (Repeat done)) = AsksForEdit q.what × (q.seq ≤ done)
RefusesEdit q (Refused (Gap done)) = AsksForEdit q.what × (done + 1 < q.seq)
RefusesEdit q _ = Unit {0}

-- At one beginning of what the seat has seen since, the server's rule refuses the request, or its entry is too large.
pub record IsRefusedAt (o : Opening) (old new : List Mark) (q : Asked) (e : SubmitError) : Type 0 where
  pub at : List Mark
  pub from : IsPrefix old at
  pub to : IsPrefix at new
  pub legal : IsLegalHistory o new
  pub refuses : RefusesRequest (board o at) q e

-- what the seat has seen since tells that what keeps the entries has failed
abbrev pub IsFailedSince : Opening → List Mark → List Mark → Type 0
IsFailedSince o old new = SeesHistory o old new × TellsFailure new

-- A refused request was refused at a beginning of what the seat has seen since, or what it has seen since tells of a failure; a request for
-- which memory was refused leaves the seat as it was.
abbrev pub IsRefusedSince : Opening → List Mark → List Mark → Asked → SubmitError → Type 0
IsRefusedSince o old new q (Refused reason) = IsRefusedAt o old new q (Refused reason)
IsRefusedSince o old new q (NotKept TooLarge) = IsRefusedAt o old new q (NotKept TooLarge)
IsRefusedSince o old new q (NotKept Memory) = new ≡ old
IsRefusedSince o old new q (NotKept _) = IsFailedSince o old new
IsRefusedSince o old new q (Owed v) = new ≡ old

-- the request was judged and refused: the server's rule says so, or its entry is too large
abbrev pub is_refusal : Result ReceiptValue SubmitError → Bool
is_refusal (Err (Refused reason)) = true
is_refusal (Err (NotKept TooLarge)) = true
is_refusal _ = false

-- what keeps the entries has failed
abbrev pub is_failure : SubmitError → Bool
is_failure (NotKept Device) = true
is_failure (NotKept Failed) = true
is_failure _ = false

-- what a seat learns with an answer that tells of no failure: all that is published where its request was judged and refused, and nothing
-- otherwise
abbrev pub Learns : Result ReceiptValue SubmitError → List Mark → List Mark → List Mark → Type 0
Learns answer seen shown front = front ≡ cond (is_refusal answer) shown seen

-- an answer to a request whose seat had seen this, and what the seat is to learn with it
abbrev pub IsAnswerTo : Opening → List Mark → Asked → Result ReceiptValue SubmitError → List Mark → Type 0
IsAnswerTo o seen q (Ok r) front = IsTold o seen q r × (front ≡ seen)
IsAnswerTo o seen q (Err e) front = RefusesEdit q e × IsRefusedSince o seen front q e
