-- How requests are spelled, by lines and by whole inputs.
use Rattle.std.specs.Prelude.{◌≡◌, ℕ, ◌-◌, ◌<◌, ◌≤◌, ◌^◌, List, [], ◌∷◌, ◌++◌, length, take, codes, Some, None}
use Rattle.std.specs.Str.{IsUtf8}
use Rattle.std.specs.Fmt.{decimal}
use Rattle.canvas_model.specs.declared.ObjId.{ObjId}
use Rattle.canvas_model.specs.Position.{IsPosition}
use Rattle.canvas_model.specs.Document.{Name, Place}
use Rattle.canvas_model.specs.Ids.{IsId}
use Rattle.canvas_model.specs.Text.{id_text, kind_word, place_text}
use Rattle.canvas_model.specs.Change.{Change, Create, Set, Move, Delete}
use Rattle.canvas_model.specs.Value.{Value, IsShallow}
use Rattle.canvas_value.specs.Names.{IsName}
use Rattle.canvas_codec.specs.Text.{Spells}
use Rattle.serde_json.specs.Data.{Data}
use Rattle.serde_json.specs.Read.{read}
use Rattle.canvas_lines.specs.declared.words.Verb.{Verb}
use Rattle.canvas_lines.specs.Verbs.{verb_word, verb_of}
use Rattle.canvas_lines.specs.Lines.{lines_of, meaningful}

-- what a line asks for: an id for a new client, or a change by this author
pub data Requested : Type 0 where
  RequestedJoin : Requested
  RequestedEdit : ℕ → Change → Requested

-- these digits are the number, which has 32 bits
abbrev pub SpellsNumber : List ℕ → ℕ → Type 0
SpellsNumber word n = (n < 2 ^ 32) × (word ≡ decimal n)

-- this word is the verb's
abbrev pub SpellsVerb : List ℕ → Verb → Type 0
SpellsVerb word verb = word ≡ verb_word verb

-- an id, a blank and the rest
abbrev pub SpellsIdFirst : List ℕ → ObjId → List ℕ → Type 0
SpellsIdFirst text id rest = IsId id × (text ≡ id_text id ++ codes " " ++ rest)

-- these bytes are the position
abbrev pub SpellsPosition : List ℕ → List ℕ → Type 0
SpellsPosition bytes pos = IsPosition pos × (bytes ≡ pos)

-- the parent's id is of 32 bits, and its position is one
abbrev pub IsSpellablePlace : Place → Type 0
IsSpellablePlace place = IsId place.parent × IsPosition place.pos

-- the parent's id, a blank and the position
abbrev pub SpellsPlace : List ℕ → Place → Type 0
SpellsPlace text place = IsSpellablePlace place × (text ≡ place_text place)

-- these bytes are the name
abbrev pub SpellsName : List ℕ → Name → Type 0
SpellsName word name = IsName name × (word ≡ name)

-- the text is UTF-8, and that of this JSON tree
abbrev pub SpellsJson : List ℕ → Data → Type 0
SpellsJson text json = IsUtf8 text × (read text ≡ Some json)

-- the text is UTF-8, and JSON of this value
abbrev pub SpellsValue : List ℕ → Value → Type 0
SpellsValue text value = IsUtf8 text × Spells text value

-- what follows the verb; a position and the JSON of a value are the rest of the line, blanks included
abbrev pub SpellsRest : List ℕ → Change → Type 0
SpellsRest rest (Create id kind place) = IsId id × IsSpellablePlace place × (rest ≡ id_text id ++ codes " " ++ kind_word kind ++ codes " " ++ place_text place)
SpellsRest rest (Set id name (Some value)) = IsId id × IsName name × IsShallow value × (text : List ℕ) × SpellsValue text value × (rest ≡ id_text id ++ codes " " ++ name ++ codes " " ++ text)
SpellsRest rest (Set id name None) = IsId id × IsName name × (rest ≡ id_text id ++ codes " " ++ name)
SpellsRest rest (Move id place) = IsId id × IsSpellablePlace place × (rest ≡ id_text id ++ codes " " ++ place_text place)
SpellsRest rest (Delete id) = IsId id × (rest ≡ id_text id)

-- the verb, and what follows it, spell this change
abbrev pub SpellsAfter : Verb → List ℕ → Change → Type 0
SpellsAfter verb rest change = (verb_of change ≡ verb) × SpellsRest rest change

-- the text spells this change: its verb, a blank and the rest
abbrev pub SpellsChange : List ℕ → Change → Type 0
SpellsChange text change = (rest : List ℕ) × (text ≡ verb_word (verb_of change) ++ codes " " ++ rest) × SpellsRest rest change

-- the line spells this
abbrev pub SpellsRequest : List ℕ → Requested → Type 0
SpellsRequest line RequestedJoin = line ≡ codes "join"
SpellsRequest line (RequestedEdit author change) = (author < 2 ^ 32) × (text : List ℕ) × (line ≡ decimal author ++ codes " " ++ text) × SpellsChange text change

-- one line for each request
abbrev pub SpellEach : List (List ℕ) → List Requested → Type 0
SpellEach [] [] = Unit {0}
SpellEach (line ∷ lines) (requested ∷ more) = SpellsRequest line requested × SpellEach lines more
SpellEach [] (requested ∷ more) = ⊥
SpellEach (line ∷ lines) [] = ⊥

-- the word `log`, and then one line for each request; without any line there is no request
abbrev pub SpellLog : List (List ℕ) → List Requested → Type 0
SpellLog [] requested = requested ≡ []
SpellLog (line ∷ lines) requested = (line ≡ codes "log") × SpellEach lines requested

-- the lines that aren't passed over stand for these requests
abbrev pub LinesSpell : List (List ℕ) → List Requested → Type 0
LinesSpell lines requested = SpellLog (meaningful lines) requested

-- the input stands for these requests
abbrev pub InputSpells : List ℕ → List Requested → Type 0
InputSpells input requested = LinesSpell (lines_of input) requested

-- the n-th line, from 1, is the first that can't be read: those before it stand for requests, with it they don't
pub record IsBadLine (input : List ℕ) (n : ℕ) : Type 0 where
  pub some : 0 < n
  pub within : n ≤ length (lines_of input)
  pub before : (requested : List Requested) × LinesSpell (take (n - 1) (lines_of input)) requested
  pub bad : (requested : List Requested) → LinesSpell (take n (lines_of input)) requested → ⊥
