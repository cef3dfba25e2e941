-- The log that requests make, and what they are answered.
use Rattle.std.specs.Prelude.{◌≡◌, ◌⊎◌, ℕ, ◌+◌, ◌<◌, false, List, [], ◌∷◌, ◌++◌, length, codes, if◌then◌else◌}
use Rattle.canvas_model.specs.State.{State, opening, joined, done, next}
use Rattle.canvas_model.specs.Log.{Entry, Join, Edit, Fits, effect, fold, IsLegal, last_version}
use Rattle.canvas_server.specs.Asked.{Asked}
use Rattle.canvas_server.specs.Served.{Served}
use Rattle.canvas_scene.specs.Answers.{outcome_line}
use Rattle.canvas_lines.specs.Spelling.{Requested, RequestedJoin, RequestedEdit}

-- the request makes no entry in this state at this version: its author hasn't joined, or the server
-- is full
abbrev pub IsLeftOut : State → ℕ → Requested → Type 0
IsLeftOut s version RequestedJoin = (version ≡ last_version) ⊎ (4294967294 < next s)
IsLeftOut s version (RequestedEdit author change) = (joined s author ≡ false) ⊎ (version ≡ last_version)

-- the answer to a request that makes no entry: an author that hasn't joined is a stranger, even to
-- a full server
abbrev pub left_out_line : State → Requested → List ℕ
left_out_line s RequestedJoin = codes "full\n"
left_out_line s (RequestedEdit author change) = if joined s author then codes "full\n" else codes "stranger\n"

-- the entry is this request's: it has its author and its change
abbrev pub IsEntryOf : Requested → Entry → Type 0
IsEntryOf RequestedJoin e = e.what ≡ Join
IsEntryOf (RequestedEdit author change) e = (e.author ≡ author) × (e.what ≡ Edit change)

-- the entries are those of the requests in order, from this state and version on, leaving out the
-- requests that make none; the lines answer each request, one that makes an entry by the version
-- after it and what became of it
pub data AnswersEachRequest : State → ℕ → List Requested → List Entry → List ℕ → Type 0 where
  no_more : {s : State} {version : ℕ} → AnswersEachRequest s version [] [] []
  left_out : {s : State} {version : ℕ} {requested : Requested} {more : List Requested} {log : List Entry} {lines : List ℕ}
      → IsLeftOut s version requested
      → AnswersEachRequest s version more log lines
      → AnswersEachRequest s version (requested ∷ more) log (left_out_line s requested ++ lines)
  answered : {s : State} {version : ℕ} {requested : Requested} {more : List Requested} {e : Entry} {log : List Entry} {lines : List ℕ}
      → (IsLeftOut s version requested → ⊥)
      → IsEntryOf requested e
      → AnswersEachRequest (effect s e) (version + 1) more log lines
      → AnswersEachRequest s version (requested ∷ more) (e ∷ log) (outcome_line (version + 1) e.outcome ++ lines)

-- the requests make these entries, whatever they are answered
abbrev pub MakesEntries : State → ℕ → List Requested → List Entry → Type 0
MakesEntries s version requested log = (lines : List ℕ) × AnswersEachRequest s version requested log lines

-- the answers to these requests, which make these entries, were added to the text
pub record AddsAnswers (requested : List Requested) (log : List Entry) (before after : List ℕ) : Type 0 where
  pub lines : List ℕ
  pub answers : AnswersEachRequest opening 0 requested log lines
  pub added : after ≡ before ++ lines

-- the entries are a legal log, and the state is what they lead to
pub record IsFold (log : List Entry) (s : State) : Type 0 where
  pub legal : IsLegal opening log
  pub state : s ≡ fold opening log

-- what a request asks of the server: an edit, to which its line gives no number, is its author's next
abbrev pub asked_of_server : State → Requested → Asked
asked_of_server s RequestedJoin = record { author = 0; seq = 0; what = Join }
asked_of_server s (RequestedEdit author change) = record { author = author; seq = done s author + 1; what = Edit change }

-- the server keeps every entry, since no checkpoint passed any, and its version is their number
pub record IsWhole (s : Served) : Type 0 where
  pub floor : s.floor ≡ 0
  pub version : s.version ≡ length s.kept

-- the request was answered: it makes no entry and nothing has changed, or it makes one more, which
-- fits; its answer was added to the text
abbrev pub IsRequestAnswered : Requested → List Entry → State → List ℕ → List Entry → State → List ℕ → Type 0
IsRequestAnswered requested log s text new_log new_s new_text =
    (IsLeftOut s (length log) requested × (new_log ≡ log) × (new_s ≡ s) × (new_text ≡ text ++ left_out_line s requested))
    ⊎ ((e : Entry) × (IsLeftOut s (length log) requested → ⊥) × IsEntryOf requested e × Fits s e × (new_log ≡ log ++ e ∷ []) × (new_s ≡ effect s e)
    × (new_text ≡ text ++ outcome_line (length log + 1) e.outcome))
