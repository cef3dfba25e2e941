-- Which word of live connections bytes are.
use Rattle.std.specs.Prelude.{ℕ, List}
use Rattle.serde_json.specs.Data.{Data}
use Rattle.canvas_live.specs.Presence.{IsHereJson, SpellsHere, TellsHere}
use Rattle.canvas_live.specs.Word.{IsLiveJson, SpellsLive}
use Rattle.canvas_live.specs.declared.place.Place.{Place}
use Rattle.canvas_live.specs.declared.word.Word.{Word}
use Rattle.canvas_live.specs.declared.word.Word.TheVariants as words

-- the JSON tree is that of the word; presence has the server's text of the same client and value
abbrev pub IsWordJson : Data → Word → Type 0
IsWordJson d (words.Live place) = IsLiveJson d place
IsWordJson d (words.Here here) = (value : Data) × IsHereJson d here.client value × TellsHere here.text.items here.client value here.value_bytes

-- the JSON tree is that of no place, and of no presence
abbrev pub IsNoWordJson : Data → Type 0
IsNoWordJson d = ((place : Place) → IsLiveJson d place → ⊥) × ((client : ℕ) (value : Data) → IsHereJson d client value → ⊥)

-- the bytes are a text of the word; presence has the server's text of the same client and value
abbrev pub SpellsWord : List ℕ → Word → Type 0
SpellsWord bytes (words.Live place) = SpellsLive bytes place
SpellsWord bytes (words.Here here) = (value : Data) × SpellsHere bytes here.client value × TellsHere here.text.items here.client value here.value_bytes

-- the bytes are a text of no place, and of no presence
abbrev pub SpellsNoWord : List ℕ → Type 0
SpellsNoWord bytes = ((place : Place) → SpellsLive bytes place → ⊥) × ((client : ℕ) (value : Data) → SpellsHere bytes client value → ⊥)
