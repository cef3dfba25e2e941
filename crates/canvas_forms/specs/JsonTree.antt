-- What stands in a JSON tree, for private clauses.
use Rattle.std.specs.Prelude.{ℕ, suc, List, Option, Some, None}
use Rattle.serde_json.specs.Data as D
use Rattle.serde_json.specs.Data.{Data, null, boolean, string, array, object, Items, no_items, item}
use Rattle.canvas_codec.specs.Parts.{head_word}

-- how many members there are
abbrev pub count : Items → ℕ
count no_items = 0
count (item d ds) = suc (count ds)

-- the word that an array begins with, and its other members
abbrev pub worded : Data → Option (List ℕ × Items)
worded null = None
worded (boolean b) = None
worded (D.number n) = None
worded (string s) = None
worded (array ds) = head_word ds
worded (object ms) = None

-- the members of an array
abbrev pub members : Data → Option Items
members null = None
members (boolean b) = None
members (D.number n) = None
members (string s) = None
members (array ds) = Some ds
members (object ms) = None
