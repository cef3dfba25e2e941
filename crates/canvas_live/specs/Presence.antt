-- The word by which a client shows the others something of itself, as where its pointer is.
use Rattle.std.specs.Prelude.{◌≡◌, ◌≤◌, ◌++◌, ℕ, List, true, Some, codes, decimal, length}
use Rattle.serde_json.specs.Data.{Data, depth}
use Rattle.serde_json.specs.Read.{max_depth, read as read_text}
use Rattle.canvas_model.specs.Messages.{Message}
use Rattle.canvas_codec.specs.Codec.{Codec, StandsFor}
use Rattle.canvas_codec.specs.Parts.{array_of, headed, after, member, end}
use Rattle.canvas_forms.specs.Ids.{client_form}
use Rattle.canvas_wire.specs.Faults.{IsJson}
use Rattle.canvas_wire.specs.Text.{SpellsMessage}
use Rattle.canvas_live.specs.Word.{SpellsLive}
use Rattle.canvas_live.specs.declared.place.Place.{Place}

-- any JSON tree
abbrev pub any_form : Codec Data
any_form = record { write = λ d. d; sound = λ _. true; fits = λ _. true; read = λ d. Some (d, true) }

-- `["here",client,value]`
abbrev pub here_form : Codec (ℕ × (Data × Unit {0}))
here_form = array_of (headed (after (codes "here") (member client_form (member any_form end))))

-- the JSON tree is the word with this client, whose id is in range, and this value
abbrev pub IsHereJson : Data → ℕ → Data → Type 0
IsHereJson d client value = StandsFor here_form d (client, (value, tt))

-- the bytes are a text of the word with this client and this value
abbrev pub SpellsHere : List ℕ → ℕ → Data → Type 0
SpellsHere bytes client value = (d : Data) × IsJson bytes d × IsHereJson d client value

-- the server's text of the word, up to the value
abbrev pub here_start : ℕ → List ℕ
here_start client = codes "[\"here\"," ++ (decimal client ++ codes ",")

-- the text has a text of the value between its start and its last bracket, of this number of bytes
abbrev pub HasValueText : List ℕ → ℕ → Data → ℕ → Type 0
HasValueText text client value bytes = (own : List ℕ) × (read_text own ≡ Some value) × (text ≡ here_start client ++ (own ++ codes "]")) × (length own ≡ bytes)

-- the server's text of the word with this client and this value, whose own text has this number of bytes
abbrev pub TellsHere : List ℕ → ℕ → Data → ℕ → Type 0
TellsHere text client value bytes = SpellsHere text client value × HasValueText text client value bytes

-- the JSON tree is the word with this client and some value, and doesn't nest too deep to be read again
abbrev pub IsReadable : Data → ℕ → Type 0
IsReadable d client = ((value : Data) × IsHereJson d client value) × (depth d ≤ max_depth)

-- no text of the word is a text of a message
abbrev pub NoMessageIsHere : Type 0
NoMessageIsHere = (bytes : List ℕ) (client : ℕ) (value : Data) (m : Message) → SpellsHere bytes client value → SpellsMessage bytes m → ⊥

-- no text of the word is a text of a place
abbrev pub NoPlaceIsHere : Type 0
NoPlaceIsHere = (bytes : List ℕ) (client : ℕ) (value : Data) (place : Place) → SpellsHere bytes client value → SpellsLive bytes place → ⊥
