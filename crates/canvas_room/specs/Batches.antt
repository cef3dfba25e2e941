-- What is told of the requests of a batch.
use Rattle.std.specs.Prelude.{◌≡◌, ◌⊎◌, Bool, true, List, [], ◌∷◌, Result, Ok, Err}
use mathlib.Core.List.{IsPrefix}
use Rattle.canvas_server.specs.Asked.{Asked}
use Rattle.canvas_board.specs.Marks.{Mark, Opening}
use Rattle.canvas_board.specs.Receipts.{ReceiptValue}
use Rattle.canvas_desk.specs.declared.faults.SubmitError.{SubmitError}
use Rattle.canvas_desk.specs.Faults.{is_memory}
use Rattle.canvas_room.specs.declared.batch.Sender.{Sender}
use Rattle.canvas_room.specs.Seats.{IsRefusedAt, IsTold, RefusesEdit, is_failure}

-- why a batch as a whole isn't answered by a desk that has failed by then or hasn't: memory was refused, or what keeps the entries has failed
abbrev pub IsUnanswered : Bool → SubmitError → Type 0
IsUnanswered failed e = (is_memory e ≡ true) ⊎ ((is_failure e ≡ true) × (failed ≡ true))

-- what an answer of a batch says of its request, whose seat had seen this: it is told, or memory was refused for it, or it was refused at a
-- beginning of all that is due
abbrev pub Says : Opening → List Mark → List Mark → Asked → Result ReceiptValue SubmitError → Type 0
Says o seen due q (Ok r) = IsTold o seen q r
Says o seen due q (Err e) = RefusesEdit q e × ((is_memory e ≡ true) ⊎ IsRefusedAt o seen due q e)

-- each answer says that of the request beside it, whose seat had seen what stands beside that
abbrev pub AreSaid : Opening → List Mark → List Asked → List (List Mark) → List (Result ReceiptValue SubmitError) → Type 0
AreSaid o due [] seens answers = Unit {0}
AreSaid o due (q ∷ qs) [] answers = Unit {0}
AreSaid o due (q ∷ qs) (seen ∷ seens) [] = Unit {0}
AreSaid o due (q ∷ qs) (seen ∷ seens) (answer ∷ answers) = Says o seen due q answer × AreSaid o due qs seens answers

-- none of these seats has seen more than this
abbrev pub AreSeen : List Mark → List (List Mark) → Type 0
AreSeen history [] = Unit {0}
AreSeen history (seen ∷ seens) = IsPrefix seen history × AreSeen history seens

-- what the sender of a request has seen
abbrev pub seen_of : {N : Type 0} → Sender N → List Mark
seen_of sender = sender.seen
