-- Clients as JSON: what is kept of one while no program holds it.
use Rattle.std.specs.Prelude.{◌≡◌, Bool, List, None, Option, codes, if◌then◌else◌, map as list_map, true, ℕ}
use Rattle.std.specs.FinMap as map
use Rattle.std.specs.List.{All}
use Rattle.serde_json.specs.Data as D
use Rattle.serde_json.specs.Data.{Data, null, boolean, string, array, object, Items, no_items, item}
use Rattle.serde_json.specs.Written.{compact_text}
use Rattle.canvas_model.specs.declared.ObjId.{ObjId}
use Rattle.canvas_model.specs.Document.{Object}
use Rattle.canvas_model.specs.Change.{Change, HoldsShallow}
use Rattle.canvas_model.specs.Client.{Client}
use Rattle.canvas_model.specs.Storable.{IsShallowDoc}
use Rattle.canvas_codec.specs.Codec.{Codec, Members, HasShape, StandsFor}
use Rattle.canvas_codec.specs.Parts.{whole, maybe, array_of, each, headed, after, member, end}
use Rattle.canvas_codec.specs.declared.json_fault.JsonFault.{JsonFault}
use Rattle.canvas_codec.specs.declared.json_fault.JsonFault.TheVariants as fault
use Rattle.canvas_doc.specs.Seen.{seen}
use Rattle.canvas_forms.specs.Ids.{client_form, version_form}
use Rattle.canvas_forms.specs.Changes.{change_form}
use Rattle.canvas_forms.specs.Rows.{rows_form}
use Rattle.canvas_forms.specs.RowOrder.{are_in_order}
use Rattle.canvas_wire.specs.Faults.{IsJson, Means, IsTextOf, IsOut}
use Rattle.canvas_client.specs.Kept.{IsKept}
use Rattle.canvas_embed.specs.declared.saves.SavedNumbers.{SavedNumbers}
use Rattle.canvas_embed.specs.declared.saves.SavedDraft.{SavedDraft}
use Rattle.canvas_embed.specs.declared.fault.LoadError.{LoadError}
use Rattle.canvas_embed.specs.declared.fault.LoadError.TheVariants.{NotJson, NotAClient, OutOfRange, TooDeep, Inconsistent, Memory}

-- ---- forms

-- a client's id if it has one, its counter, its version, and the number of its last edit that it knows to be judged
abbrev pub Numbers : Type 0
Numbers = Option ℕ × (ℕ × (ℕ × (ℕ × Unit {0})))

-- any whole number of 64 bits
abbrev pub any_form : Codec ℕ
any_form = whole 0 18446744073709551615

-- `[id,counter,version,acknowledged]`, with `null` for the id of one that has none
abbrev pub numbers_form : Codec Numbers
numbers_form = array_of (member (maybe client_form) (member client_form (member any_form (member version_form end))))

-- `[change,..]`
abbrev pub waiting_form : Codec (List Change)
waiting_form = array_of (each change_form)

-- what stands in a saved client, its rows in any order
abbrev pub SavedParts : Type 0
SavedParts = Numbers × (List Change × (List (ObjId × Object) × Unit {0}))

-- `numbers,waiting,rows`
abbrev pub saved_members : Members SavedParts
saved_members = member numbers_form (member waiting_form (member rows_form end))

-- `"client",..`
abbrev pub saved_form : Codec SavedParts
saved_form = array_of (headed (after (codes "client") saved_members))

-- the parts of a client
abbrev pub saved_parts_of : Client → SavedParts
saved_parts_of c = ((c.id, (c.counter, (c.version, (c.acknowledged, tt)))), (c.waiting, (map.entries c.view, tt)))

-- the client of these parts
abbrev pub client_of : SavedParts → Client
client_of p = record { id = p.0.0; counter = p.0.1.0; version = p.0.1.1.0; acknowledged = p.0.1.1.1.0; waiting = p.1.0; view = map.from_sorted p.1.1.0 }

-- ---- the order of rows

-- the third member's rows stand in order
abbrev pub third_in_order : Items → Bool
third_in_order no_items = true
third_in_order (item a no_items) = true
third_in_order (item a (item b no_items)) = true
third_in_order (item a (item b (item rows ds))) = are_in_order rows

-- the same of the members after the word
abbrev pub are_saved_in_order : Items → Bool
are_saved_in_order no_items = true
are_saved_in_order (item word ds) = third_in_order ds

-- if the JSON tree is a saved client, its rows stand in order
abbrev pub is_saved_in_order : Data → Bool
is_saved_in_order null = true
is_saved_in_order (boolean b) = true
is_saved_in_order (D.number n) = true
is_saved_in_order (string s) = true
is_saved_in_order (array ds) = are_saved_in_order ds
is_saved_in_order (object ms) = true

-- the parts that an orderly JSON tree is read as
abbrev pub saved_in : Data → Option (SavedParts × Bool)
saved_in d = if is_saved_in_order d then saved_form.read d else None

-- the same, of an array that begins with this word
abbrev pub saved_after : List ℕ → Items → Option (SavedParts × Bool)
saved_after w ds = saved_in (array (item (string w) ds))

-- ---- texts

-- the JSON tree is that of a saved client, but for its whole numbers: these only tell in which order rows stand
abbrev pub IsSavedShape : Data → Type 0
IsSavedShape d = (is_saved_in_order d ≡ true) × HasShape saved_form d

-- the JSON tree is that of this client, whose numbers are in range
abbrev pub IsSavedJson : Data → Client → Type 0
IsSavedJson d client = (is_saved_in_order d ≡ true) × StandsFor saved_form d (saved_parts_of client)

-- no value of the client is too deep, neither in its view nor in an edit that waits
abbrev pub IsShallowClient : Client → Type 0
IsShallowClient client = All HoldsShallow client.waiting × IsShallowDoc client.view

-- the bytes are a text of this client
abbrev pub SpellsClient : List ℕ → Client → Type 0
SpellsClient = IsTextOf IsSavedJson IsShallowClient

-- what is written of a client: its text, which spells it where no value that it shows is too deep
pub record EncodesClient (bytes : List ℕ) (client : Client) : Type 0 where
  pub text : bytes ≡ compact_text (saved_form.write (saved_parts_of client))
  pub back : IsShallowDoc client.view → SpellsClient bytes client

-- a change that can be written and read: its texts are such, its numbers are in range, and its value isn't too deep
pub record IsSoundChange (change : Change) : Type 0 where
  pub sound : change_form.sound change ≡ true
  pub in_range : change_form.fits change ≡ true
  pub shallow : HoldsShallow change

-- ---- faults

-- why a JSON tree is no client: it has no such shape; it has one, and a number is out of range; all but the depth of a value fits; all fits, and
-- what holds of every client doesn't hold of this one; want of memory can be met at any
abbrev pub IsSavedFault : Data → LoadError → Type 0
IsSavedFault d NotJson = ⊥
IsSavedFault d NotAClient = IsSavedShape d → ⊥
IsSavedFault d OutOfRange = IsOut IsSavedShape IsSavedJson d
IsSavedFault d TooDeep = (client : Client) × IsSavedJson d client × (IsShallowClient client → ⊥)
IsSavedFault d Inconsistent = (client : Client) × Means IsSavedJson IsShallowClient d client × (IsKept client → ⊥)
IsSavedFault d Memory = Unit {0}

-- why bytes are no client: they aren't JSON, or their JSON tree is that of no client
abbrev pub IsLoadError : List ℕ → LoadError → Type 0
IsLoadError bytes NotJson = (d : Data) → IsJson bytes d → ⊥
IsLoadError bytes NotAClient = (d : Data) × IsJson bytes d × (IsSavedShape d → ⊥)
IsLoadError bytes OutOfRange = (d : Data) × IsJson bytes d × IsOut IsSavedShape IsSavedJson d
IsLoadError bytes TooDeep = (d : Data) × (client : Client) × IsJson bytes d × IsSavedJson d client × (IsShallowClient client → ⊥)
IsLoadError bytes Inconsistent = (client : Client) × SpellsClient bytes client × (IsKept client → ⊥)
IsLoadError bytes Memory = Unit {0}

-- what a fault of the shape is answered as
abbrev pub load_error_of : JsonFault → LoadError
load_error_of fault.NotAValue = NotAClient
load_error_of fault.OutOfRange = OutOfRange
load_error_of fault.Memory = Memory

-- what was read makes no client: a value is too deep; none is, and what holds of every client doesn't hold; or memory was refused
abbrev pub MakesNoClient : Client → LoadError → Type 0
MakesNoClient client NotJson = ⊥
MakesNoClient client NotAClient = ⊥
MakesNoClient client OutOfRange = ⊥
MakesNoClient client TooDeep = IsShallowClient client → ⊥
MakesNoClient client Inconsistent = IsShallowClient client × (IsKept client → ⊥)
MakesNoClient client Memory = Unit {0}

-- a value isn't shallow, or memory was refused
abbrev pub IsTooDeepOr : Type 0 → LoadError → Type 0
IsTooDeepOr IsShallow NotJson = ⊥
IsTooDeepOr IsShallow NotAClient = ⊥
IsTooDeepOr IsShallow OutOfRange = ⊥
IsTooDeepOr IsShallow TooDeep = IsShallow → ⊥
IsTooDeepOr IsShallow Inconsistent = ⊥
IsTooDeepOr IsShallow Memory = Unit {0}

-- ---- what was read

-- the numbers that were read
abbrev pub seen_numbers : SavedNumbers → Numbers
seen_numbers n = (n.id, (n.counter, (n.version, (n.acknowledged, tt))))

-- the parts that were read
abbrev pub seen_saved_draft : SavedDraft → SavedParts
seen_saved_draft d = (seen_numbers d.numbers, (list_map seen d.waiting.items, (d.objects.items, tt)))
