-- The word by which a client asks to be told unasked.
use Rattle.std.specs.Prelude.{ℕ, List, codes}
use Rattle.serde_json.specs.Data.{Data}
use Rattle.canvas_model.specs.Messages.{Message}
use Rattle.canvas_codec.specs.Codec.{Codec, StandsFor}
use Rattle.canvas_codec.specs.Parts.{array_of, headed, after}
use Rattle.canvas_wire.specs.Faults.{IsJson}
use Rattle.canvas_wire.specs.Messages.{asked}
use Rattle.canvas_wire.specs.Text.{SpellsMessage}
use Rattle.canvas_live.specs.declared.place.Place.{Place}

-- `["live",client,version]`
abbrev pub live_form : Codec (ℕ × (ℕ × Unit {0}))
live_form = array_of (headed (after (codes "live") asked))

-- the parts of a place
abbrev pub parts_of : Place → ℕ × (ℕ × Unit {0})
parts_of p = (p.client, (p.version, tt))

-- the JSON tree is the word with this place, whose numbers are in range
abbrev pub IsLiveJson : Data → Place → Type 0
IsLiveJson d p = StandsFor live_form d (parts_of p)

-- the bytes are a text of the word with this place
abbrev pub SpellsLive : List ℕ → Place → Type 0
SpellsLive bytes p = (d : Data) × IsJson bytes d × IsLiveJson d p

-- no text of the word is a text of a message
abbrev pub NoMessageIsLive : Type 0
NoMessageIsLive = (bytes : List ℕ) (p : Place) (m : Message) → SpellsLive bytes p → SpellsMessage bytes m → ⊥
