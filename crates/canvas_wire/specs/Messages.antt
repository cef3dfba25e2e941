-- Messages as JSON: arrays that begin with the word of what is said.
use Rattle.std.specs.Prelude.{◌≡◌, ◌⊎◌, ◌++◌, ℕ, List, Bool, true, Option, None, codes, decimal, bytes_eq, if◌then◌else◌}
use mathlib.Core.Logic.{inl, inr}
use Rattle.std.specs.FinMap as map
use Rattle.serde_json.specs.Data as D
use Rattle.serde_json.specs.Data.{Data, null, boolean, string, array, object, Items, no_items, item}
use Rattle.canvas_model.specs.declared.ObjId.{ObjId}
use Rattle.canvas_model.specs.Document.{Object}
use Rattle.canvas_model.specs.Change.{Change}
use Rattle.canvas_model.specs.Log.{Entry}
use Rattle.canvas_model.specs.Messages.{Message, Welcome, Idle, No}
use Rattle.canvas_model.specs.Messages as messages
use Rattle.canvas_codec.specs.Codec.{Codec, Members, Worded, HasShape, StandsFor}
use Rattle.canvas_codec.specs.Parts.{whole, array_of, headed, choice, after, member, end}
use Rattle.canvas_forms.specs.Version.{Version}
use Rattle.canvas_forms.specs.Numbered.{numbered}
use Rattle.canvas_forms.specs.Ids.{client_form, version_form}
use Rattle.canvas_forms.specs.Changes.{change_form}
use Rattle.canvas_forms.specs.Outcomes.{alone}
use Rattle.canvas_forms.specs.Rows.{rows_form}
use Rattle.canvas_forms.specs.RowOrder.{are_in_order}
use Rattle.canvas_forms.specs.Entries.{entry_form}

-- the number of the version, and no other
abbrev pub number_form : Version → Codec (Unit {0})
number_form v = numbered v.number v.number (λ _. tt) (λ _. v.number)

-- `client,seq,change`
abbrev pub sent : Members (ℕ × (ℕ × (Change × Unit {0})))
sent = member client_form (member version_form (member change_form end))

-- `client,version`
abbrev pub asked : Members (ℕ × (ℕ × Unit {0}))
asked = member client_form (member version_form end)

-- `version,entry`
abbrev pub told : Version → Members (ℕ × (Entry × Unit {0}))
told v = member version_form (member (entry_form v) end)

-- `version,done,rows`
abbrev pub copied : Members (ℕ × (ℕ × (List (ObjId × Object) × Unit {0})))
copied = member version_form (member version_form (member rows_form end))

-- what stands in a message, the rows of a copy in any order
abbrev pub MessageParts : Type 0
MessageParts =
    (Unit {0} × Unit {0}) ⊎ ((ℕ × Unit {0}) ⊎ ((ℕ × (ℕ × (Change × Unit {0}))) ⊎ ((ℕ × (ℕ × Unit {0})) ⊎ ((ℕ × (Entry × Unit {0})) ⊎
    ((ℕ × (ℕ × (List (ObjId × Object) × Unit {0}))) ⊎ (Unit {0} ⊎ (ℕ × Unit {0})))))))

-- `"join",..`, `"welcome",..`, `"edit",..`, `"ask",..`, `"entry",..`, `"copy",..`, `"idle"` or `"no",..`
abbrev pub message_words : Version → Worded MessageParts
message_words v =
    choice (codes "join") (alone (number_form v)) (choice (codes "welcome") (alone client_form) (choice (codes "edit") sent (choice (codes "ask") asked (choice (codes "entry") (told v)
    (choice (codes "copy") copied (choice (codes "idle") end (after (codes "no") (alone (whole 1 v.last_no)))))))))

-- the form of the parts of a message
abbrev pub parts_form : Version → Codec MessageParts
parts_form v = array_of (headed (message_words v))

-- the message of these parts
abbrev pub message_of : MessageParts → Message
message_of (inl p) = messages.Join
message_of (inr (inl p)) = Welcome p.0
message_of (inr (inr (inl p))) = messages.Edit p.0 p.1.0 p.1.1.0
message_of (inr (inr (inr (inl p)))) = messages.Ask p.0 p.1.0
message_of (inr (inr (inr (inr (inl p))))) = messages.Entry p.0 p.1.0
message_of (inr (inr (inr (inr (inr (inl p)))))) = messages.Copy p.0 p.1.0 (map.from_sorted p.1.1.0)
message_of (inr (inr (inr (inr (inr (inr (inl p))))))) = Idle
message_of (inr (inr (inr (inr (inr (inr (inr p))))))) = No p.0

-- the parts of a message
abbrev pub parts_of : Message → MessageParts
parts_of messages.Join = inl (tt, tt)
parts_of (Welcome client) = inr (inl (client, tt))
parts_of (messages.Edit client seq change) = inr (inr (inl (client, (seq, (change, tt)))))
parts_of (messages.Ask client version) = inr (inr (inr (inl (client, (version, tt)))))
parts_of (messages.Entry version entry) = inr (inr (inr (inr (inl (version, (entry, tt))))))
parts_of (messages.Copy version done doc) = inr (inr (inr (inr (inr (inl (version, (done, (map.entries doc, tt))))))))
parts_of Idle = inr (inr (inr (inr (inr (inr (inl tt))))))
parts_of (No reason) = inr (inr (inr (inr (inr (inr (inr (reason, tt)))))))

-- it isn't a copy, whose rows are written one by one
abbrev pub IsNoCopy : Message → Type 0
IsNoCopy (messages.Copy version done doc) = ⊥
IsNoCopy _ = Unit {0}

-- the rows of a copy stand in order
abbrev pub copy_in_order : Items → Bool
copy_in_order no_items = true
copy_in_order (item a no_items) = true
copy_in_order (item a (item b no_items)) = true
copy_in_order (item a (item b (item rows ds))) = are_in_order rows

-- if the members are those of a copy, its rows stand in order
abbrev pub are_orderly : Items → Bool
are_orderly no_items = true
are_orderly (item null ds) = true
are_orderly (item (boolean b) ds) = true
are_orderly (item (D.number n) ds) = true
are_orderly (item (string s) ds) = if bytes_eq s (codes "copy") then copy_in_order ds else true
are_orderly (item (array es) ds) = true
are_orderly (item (object ms) ds) = true

-- if the JSON tree is a copy, its rows stand in order
abbrev pub is_orderly : Data → Bool
is_orderly null = true
is_orderly (boolean b) = true
is_orderly (D.number n) = true
is_orderly (string s) = true
is_orderly (array ds) = are_orderly ds
is_orderly (object ms) = true

-- the JSON tree of a message
abbrev pub message_json : Version → Message → Data
message_json v m = (parts_form v).write (parts_of m)

-- the JSON tree is that of a message, but for its whole numbers: these only tell in which order rows stand
abbrev pub IsMessageShape : Version → Data → Type 0
IsMessageShape v d = (is_orderly d ≡ true) × HasShape (parts_form v) d

-- the JSON tree is that of this message, whose whole numbers are in range
abbrev pub IsMessageJson : Version → Data → Message → Type 0
IsMessageJson v d m = (is_orderly d ≡ true) × StandsFor (parts_form v) d (parts_of m)

-- the parts that an orderly JSON tree is read as
abbrev pub message_in : Version → Data → Option (MessageParts × Bool)
message_in v d = if is_orderly d then (parts_form v).read d else None

-- the same, of an array that begins with this word
abbrev pub message_after : Version → List ℕ → Items → Option (MessageParts × Bool)
message_after v w ds = message_in v (array (item (string w) ds))

-- the text of a told entry up to the entry
abbrev pub entry_start : ℕ → List ℕ
entry_start version = codes "[\"entry\"," ++ (decimal version ++ codes ",")

-- the text of a copy up to its rows
abbrev pub copy_start : ℕ → ℕ → List ℕ
copy_start version done = codes "[\"copy\"," ++ (decimal version ++ (codes "," ++ (decimal done ++ codes ",")))
