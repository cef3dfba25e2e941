-- What is answered a client's message at a seat.
use Rattle.std.specs.Prelude.{◌≡◌, ◌<◌, ◌≤◌, ◌⊎◌, ℕ, true, false, List, [], ◌∷◌, ◌++◌, Option, None, Some}
use Rattle.canvas_model.specs.State.{joined}
use Rattle.canvas_model.specs.Log.{What, Join, Edit, Entry}
use Rattle.canvas_model.specs.Verdict.{Outcome, Joined}
use Rattle.canvas_model.specs.Messages.{Message, Welcome, Idle, No}
use Rattle.canvas_model.specs.Messages as messages
use Rattle.canvas_judge.specs.declared.message.NoReason.{NoReason}
use Rattle.canvas_judge.specs.declared.message.NoReason.TheVariants as no
use Rattle.canvas_judge.specs.Reasons.{number_of}
use Rattle.canvas_journal.specs.declared.fault.KeepError.{KeepError}
use Rattle.canvas_journal.specs.declared.fault.KeepError.TheVariants as keep
use Rattle.canvas_server.specs.Asked.{Asked}
use Rattle.canvas_server.specs.Served.{Served}
use Rattle.canvas_board.specs.Marks.{Logged, Mark, Opening, SeesHistory, board}
use Rattle.canvas_desk.specs.declared.faults.Refusal.TheVariants as refusal
use Rattle.canvas_desk.specs.declared.faults.SubmitError.{SubmitError}
use Rattle.canvas_desk.specs.declared.faults.SubmitError.TheVariants as submit
use Rattle.canvas_room.specs.Seats.{Answers, IsRefusedSince, RefusesEdit}
use Rattle.canvas_nodes.specs.Answers.{AreMessageTexts, refusal_alone}
use Rattle.canvas_wire.specs.Text.{EncodesMessage}
use Rattle.room_handler.specs.News.{copies, news_of}

-- no more was seen, or a legal history that begins with what was seen
abbrev pub SeesOn : Opening → List Mark → List Mark → Type 0
SeesOn o old new = (new ≡ old) ⊎ SeesHistory o old new

-- The entry stands in what has been seen since: it is one of the marks by which the new history is longer than the old.
pub record IsSince (old new : List Mark) (e : Entry) : Type 0 where
  pub before : List Mark
  pub after : List Mark
  pub new_is : new ≡ old ++ (before ++ Logged e ∷ after)

-- the message tells what became of what was asked: a Welcome with the id that a Join was given, and Idle for an edit
abbrev pub IsToldAs : What → Outcome → Message → Type 0
IsToldAs Join outcome m = (client : ℕ) × (outcome ≡ Joined client) × (m ≡ Welcome client)
IsToldAs (Edit change) outcome m = m ≡ Idle

-- the reason of the No where a request isn't kept
abbrev pub reason_not_kept : KeepError → NoReason
reason_not_kept keep.Device = no.Device
reason_not_kept keep.Failed = no.Failed
reason_not_kept keep.Memory = no.Memory
reason_not_kept keep.TooLarge = no.TooLarge

-- the answer where a submit refuses a request: a No with the error's number, but Idle where the edit was judged before
abbrev pub answer_of : SubmitError → Message
answer_of (submit.Refused refusal.Stranger) = No (number_of no.Stranger)
answer_of (submit.Refused (refusal.Repeat done)) = Idle
answer_of (submit.Refused (refusal.Gap done)) = No (number_of no.Gap)
answer_of (submit.Refused refusal.Full) = No (number_of no.Full)
answer_of (submit.NotKept error) = No (number_of (reason_not_kept error))
answer_of (submit.Owed v) = No (number_of no.Memory)

-- An entry that answers the request stands in what has been seen since, and the message tells what became of it.
pub record IsJudgedSince (q : Asked) (old : List Mark) (m : Message) (new : List Mark) : Type 0 where
  pub entry : Entry
  pub answers : Answers q entry
  pub since : IsSince old new entry
  pub told : IsToldAs entry.what entry.outcome m

-- An error by which a submit refuses the request is told, and the request was refused so by a history that has been seen since.
pub record TellsRefusal (o : Opening) (q : Asked) (old : List Mark) (m : Message) (new : List Mark) : Type 0 where
  pub error : SubmitError
  pub refuses : RefusesEdit q error
  pub judged : IsRefusedSince o old new q error
  pub told : m ≡ answer_of error

-- the message says of a request that it was judged, or why not
abbrev pub SaysOf : Opening → Asked → List Mark → Message → List Mark → Type 0
SaysOf o q old m new = IsJudgedSince q old m new ⊎ TellsRefusal o q old m new

-- what is answered a request: one message that says of it what it became
abbrev pub AnswersRequest : Opening → Asked → List Mark → List Message → List Mark → Type 0
AnswersRequest o q old answer new = (m : Message) × (answer ≡ m ∷ []) × SaysOf o q old m new

-- a client that has joined by this board is told its news, and then Idle
abbrev pub TellsNews : Served → ℕ → ℕ → List Message → Type 0
TellsNews b client from answer = (joined b.state client ≡ true) × (answer ≡ news_of b client from ++ Idle ∷ [])

-- the same, as texts
abbrev pub TellsTexts : Served → ℕ → ℕ → List (List ℕ) → Type 0
TellsTexts b client from texts = (answer : List Message) × TellsNews b client from answer × AreMessageTexts texts answer

-- a client that was told all up to a version, and isn't as far as the board, is told the board's copy, of which this is a text
abbrev pub TellsCopy : Served → ℕ → ℕ → List ℕ → Type 0
TellsCopy b client from text = (from < b.version) × TellsNews b client from (copies b client ∷ Idle ∷ []) × EncodesMessage text (copies b client)

-- the same, and the version of that copy
abbrev pub TellsCopyAt : Served → ℕ → ℕ → List ℕ → ℕ → Type 0
TellsCopyAt b client from text version = TellsCopy b client from text × (version ≡ b.version)

-- what is answered an Ask: the news of the board that was seen, or a No to a client that hasn't joined by then
abbrev pub AnswersAsk : Served → ℕ → ℕ → List Message → Type 0
AnswersAsk b client from answer = TellsNews b client from answer ⊎ ((joined b.state client ≡ false) × (answer ≡ refusal_alone no.Stranger))

-- what a client is told unasked that was told all up to a version: nothing where nothing is published after that, or where it hasn't joined; and
-- else what an Ask from there is answered, without its Idle
abbrev pub IsPush : Served → ℕ → ℕ → Option (List Message) → Type 0
IsPush b client from None = (b.version ≤ from) ⊎ (joined b.state client ≡ false)
IsPush b client from (Some told) = (from < b.version) × TellsNews b client from (told ++ Idle ∷ [])

-- what is answered a message, and what has been seen then: by the kind of the message
abbrev pub IsAnswerToMessage : Opening → List Mark → Message → List Message → List Mark → Type 0
IsAnswerToMessage o old messages.Join answer new = AnswersRequest o (record { author = 0; seq = 0; what = Join }) old answer new
IsAnswerToMessage o old (messages.Edit client seq change) answer new = AnswersRequest o (record { author = client; seq = seq; what = Edit change }) old answer new
IsAnswerToMessage o old (messages.Ask client version) answer new = AnswersAsk (board o new) client version answer
IsAnswerToMessage o old _ answer new = (answer ≡ refusal_alone no.NotRead) × (new ≡ old)

-- an answer by the table, and no more was seen than goes on from what was
abbrev pub Gives : Opening → List Mark → Message → List Message → List Mark → Type 0
Gives o old m answer new = SeesOn o old new × IsAnswerToMessage o old m answer new
