-- What the lines of a script say, with nodes by their names.
use Rattle.std.specs.Prelude.{◌≡◌, ◌⊎◌, ℕ, List, codes}
use Rattle.canvas_model.specs.Local.{EditRequest}
use Rattle.canvas_script.specs.declared.said.Whole.{Whole}
use Rattle.canvas_script.specs.declared.said.Whole.TheVariants.{Sync, Publish, Checkpoint, ShowServer}
use Rattle.canvas_script.specs.declared.said.Counted.{Counted}
use Rattle.canvas_script.specs.declared.said.Counted.TheVariants.{Take, Welcome, Deliver, Restart}
use Rattle.canvas_script.specs.declared.said.Named.{Named}
use Rattle.canvas_script.specs.declared.said.Named.TheVariants.{Join, Copy, Show}
use Rattle.canvas_script.specs.declared.said.Head.{Head}
use Rattle.canvas_script.specs.declared.said.Head.TheVariants as head
use Rattle.canvas_script.specs.declared.said.Said as declared
use Rattle.canvas_script.specs.declared.said.Said.TheVariants as said
use Rattle.canvas_edit_lines.specs.Edits.{SpellsEdit}
use Rattle.canvas_edit_lines.specs.Words.{Spaced}
use Rattle.canvas_script.specs.Words.{SpellsCount, SpellsNode}

-- the lines that name nothing
abbrev pub whole_line : Whole → List ℕ
whole_line Sync = codes "sync"
whole_line Publish = codes "publish"
whole_line Checkpoint = codes "checkpoint"
whole_line ShowServer = codes "show server"

-- the words that want a number
abbrev pub counted_word : Counted → List ℕ
counted_word Take = codes "take"
counted_word Welcome = codes "welcome"
counted_word Deliver = codes "deliver"
counted_word Restart = codes "restart"

-- the words that want a node's name
abbrev pub named_word : Named → List ℕ
named_word Join = codes "join"
named_word Copy = codes "copy"
named_word Show = codes "show"

-- the first word of a line that has more
abbrev pub first_word : Head → List ℕ
first_word (head.Counted word) = counted_word word
first_word (head.Named word) = named_word word
first_word head.Edit = codes "edit"
first_word head.Send = codes "send"
first_word head.Tell = codes "tell"

-- the line is this one
abbrev pub SpellsWhole : List ℕ → Whole → Type 0
SpellsWhole line whole = line ≡ whole_line whole

-- the word is this one
abbrev pub SpellsFirstWord : List ℕ → Head → Type 0
SpellsFirstWord word first = word ≡ first_word first

-- what a line says
pub data Said : Type 0 where
  SaysWhole : Whole → Said
  SaysCounted : Counted → ℕ → Said
  SaysNamed : Named → List ℕ → Said
  -- the node of this name makes an edit
  SaysEdit : List ℕ → EditRequest → Said
  -- the node of this name sends the i-th of its waiting edits
  SaysSend : List ℕ → ℕ → Said
  -- entry v is told to the node of this name
  SaysTell : ℕ → List ℕ → Said

-- what contracts see of it
abbrev pub seen_said : declared.Said → Said
seen_said (said.Whole line) = SaysWhole line
seen_said (said.Counted word n) = SaysCounted word n
seen_said (said.Named word name) = SaysNamed word name.now
seen_said (said.Edit name request) = SaysEdit name.now request
seen_said (said.Send name i) = SaysSend name.now i
seen_said (said.Tell v name) = SaysTell v name.now

-- what follows each first word
abbrev pub SpellsAfterWord : Head → List ℕ → Said → Type 0
SpellsAfterWord (head.Counted word) rest said = (n : ℕ) × (said ≡ SaysCounted word n) × SpellsCount rest n
SpellsAfterWord (head.Named word) rest said = (name : List ℕ) × (said ≡ SaysNamed word name) × SpellsNode rest name
SpellsAfterWord head.Edit rest said = (name : List ℕ) × (request : EditRequest) × (said ≡ SaysEdit name request) × Spaced rest (λ word. SpellsNode word name) (λ text. SpellsEdit text request)
SpellsAfterWord head.Send rest said = (name : List ℕ) × (i : ℕ) × (said ≡ SaysSend name i) × Spaced rest (λ word. SpellsNode word name) (λ word. SpellsCount word i)
SpellsAfterWord head.Tell rest said = (v : ℕ) × (name : List ℕ) × (said ≡ SaysTell v name) × Spaced rest (λ word. SpellsCount word v) (λ word. SpellsNode word name)

-- a line of several words: the first, and what follows it
abbrev pub SpellsLong : List ℕ → Said → Type 0
SpellsLong line said = (first : Head) × Spaced line (λ word. SpellsFirstWord word first) (λ rest. SpellsAfterWord first rest said)

-- the line says this: it is one of the lines that name nothing, or a first word and what follows it
abbrev pub SpellsLine : List ℕ → Said → Type 0
SpellsLine line said = ((whole : Whole) × (said ≡ SaysWhole whole) × SpellsWhole line whole) ⊎ SpellsLong line said
