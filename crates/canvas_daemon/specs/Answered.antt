-- What `canvasd edit` answers to a line.
use Rattle.std.specs.Prelude.{◌≡◌, ◌⊎◌, ℕ, ◌+◌, true, List, [], ◌∷◌, ◌++◌, length, codes, Option, IsSome, IsSomeAnd}
use Rattle.std.specs.Fmt.{decimal}
use Rattle.std.specs.Io.KnownBytes.{Appends}
use Rattle.canvas_model.specs.Client.{Client, new_client, last_number}
use Rattle.canvas_model.specs.Local.{EditRequest, Refuses}
use Rattle.canvas_client.specs.Asked.{HasMade, refusal}
use Rattle.canvas_nodes.specs.GoesOn.{GoesOn}
use Rattle.canvas_lines.specs.Lines.{is_passed}
use Rattle.canvas_lines.specs.Blocks.{IsBlockText}
use Rattle.canvas_edit_lines.specs.Answers.{edit_line, refusal_line}
use Rattle.canvas_edit_lines.specs.Edits.{SpellsEdit}
use Rattle.canvas_edit_lines.specs.Heads.{node_head}
use Rattle.canvas_daemon.specs.declared.editing.EditAnswer.{EditAnswer}
use Rattle.canvas_daemon.specs.declared.editing.EditAnswer.TheVariants.{Made, Refused}

-- the client has joined: it has gone on from a new one, and has an id
abbrev pub HasJoined : Client → Type 0
HasJoined client = GoesOn new_client client × IsSome client.id

-- the line of a client's version and of how many of its edits wait
abbrev pub version_and_waiting_line : Client → List ℕ
version_and_waiting_line client = codes "version " ++ decimal client.version ++ codes " waiting " ++ decimal (length client.waiting) ++ 10 ∷ []

-- the client's block, under the name `me`
abbrev pub IsOwnBlock : Client → List ℕ → Type 0
IsOwnBlock client text = IsBlockText (node_head (codes "me") client) client.view text

-- the client's block was written
abbrev pub WritesBlock : Client → Option (List ℕ) → Option (List ℕ) → Type 0
WritesBlock client before after = (block : List ℕ) × IsOwnBlock client block × Appends before after block

-- what a client makes of an edit: it is made, and has the next number; or the client refuses it, and nothing has changed
abbrev pub MakesEdit : Client → EditRequest → EditAnswer → Client → Type 0
MakesEdit old request (Made n) new = HasMade old request new × (n ≡ last_number old + 1)
MakesEdit old request (Refused error) new = IsSomeAnd (refusal error) (Refuses old request) × (new ≡ old)

-- the line that answers an edit
abbrev pub edit_answer_line : EditAnswer → List ℕ
edit_answer_line (Made n) = edit_line n
edit_answer_line (Refused error) = refusal_line (refusal error)

-- the line spells an edit, and what became of it is told
abbrev pub PlaysEdit : Client → List ℕ → List ℕ → Client → Type 0
PlaysEdit old line text new = (request : EditRequest) × (answer : EditAnswer) × SpellsEdit line request × MakesEdit old request answer new × (text ≡ edit_answer_line answer)

-- what a client makes of a line, and the text that answers it: none, where the line is passed over; its version after `exchange`, by which
-- it has gone on; its block for `show`; and otherwise what became of the edit that the line spells
abbrev pub PlaysLine : Client → List ℕ → List ℕ → Client → Type 0
PlaysLine old line text new =
    ((is_passed line ≡ true) × (text ≡ []) × (new ≡ old))
    ⊎ ((line ≡ codes "exchange") × GoesOn old new × (text ≡ version_and_waiting_line new))
    ⊎ ((line ≡ codes "show") × IsOwnBlock old text × (new ≡ old))
    ⊎ PlaysEdit old line text new

-- the lines, one after another from this client on, were answered so, and led to that client
abbrev pub PlaysEach : Client → List (List ℕ) → List ℕ → Client → Type 0
PlaysEach old [] text new = (text ≡ []) × (new ≡ old)
PlaysEach old (line ∷ lines) text new = (first more : List ℕ) × (between : Client) × PlaysLine old line first between × PlaysEach between lines more new × (text ≡ first ++ more)

-- an edit was answered, and the answer was written
abbrev pub AnswersEdit : Client → List ℕ → Option (List ℕ) → Option (List ℕ) → Client → Type 0
AnswersEdit old line written after new = (text : List ℕ) × PlaysEdit old line text new × Appends written after text

-- a line was answered, and the answer was written
abbrev pub AnswersLine : Client → List ℕ → Option (List ℕ) → Option (List ℕ) → Client → Type 0
AnswersLine old line written after new = (text : List ℕ) × PlaysLine old line text new × Appends written after text

-- the line spells no edit
abbrev pub SpellsNoEdit : List ℕ → Type 0
SpellsNoEdit line = (request : EditRequest) → SpellsEdit line request → ⊥

-- the line isn't passed over, is neither `exchange` nor `show`, and spells no edit
pub record IsUnreadable (line : List ℕ) : Type 0 where
  pub not_passed : is_passed line ≡ true → ⊥
  pub no_exchange : line ≡ codes "exchange" → ⊥
  pub no_show : line ≡ codes "show" → ⊥
  pub no_edit : SpellsNoEdit line
