-- Which rows stand in order: told from the JSON tree, since an id is compared with the next whatever the range of its numbers.
use Rattle.std.specs.Prelude.{◌&&◌, ℤ, pos, List, Bool, true, false, not, is_some, Option, Some, None, codes, bytes_eq, if◌then◌else◌}
use Rattle.std.specs.Option.{option_map, option_and_then}
use Rattle.std.specs.Ordering.{int_cmp, on, then_cmp, is_lt, is_eq}
use Rattle.std.specs.declared.cmp.Ordering.{Ordering}
use Rattle.serde_json.specs.Data as D
use Rattle.serde_json.specs.Data.{Data, null, boolean, string, array, object, Items, no_items, item}
use Rattle.serde_json.specs.Find.{as_integer, as_null}
use Rattle.canvas_forms.specs.JsonTree.{members}
use Rattle.canvas_forms.specs.declared.order.WideId.{WideId}
use Rattle.canvas_forms.specs.declared.order.RowHead.{RowHead}

-- by client, then counter, as ids are
abbrev pub wide_cmp : WideId → WideId → Ordering
wide_cmp = then_cmp (on (λ w. w.client) int_cmp) (on (λ w. w.counter) int_cmp)

-- the id of the root
abbrev pub wide_root : WideId
wide_root = record { client = pos 0; counter = pos 0 }

-- the whole number that a JSON tree is
abbrev pub integer_in : Data → Option ℤ
integer_in null = None
integer_in (boolean b) = None
integer_in (D.number n) = as_integer n
integer_in (string s) = None
integer_in (array ds) = None
integer_in (object ms) = None

-- two whole numbers, and no more
abbrev pub two_in : Items → Option WideId
two_in no_items = None
two_in (item a no_items) = None
two_in (item a (item b no_items)) = option_and_then (λ client. option_map (λ counter. record { client = client; counter = counter }) (integer_in b)) (integer_in a)
two_in (item a (item b (item c ds))) = None

-- the id that a JSON tree is, whatever the range of its numbers
abbrev pub wide_in : Data → Option WideId
wide_in d = option_and_then two_in (members d)

-- the JSON tree is the word of a document
abbrev pub is_document : Data → Bool
is_document null = false
is_document (boolean b) = false
is_document (D.number n) = false
is_document (string s) = bytes_eq s (codes "document")
is_document (array ds) = false
is_document (object ms) = false

-- the JSON tree isn't null
abbrev pub is_given : Data → Bool
is_given d = not (is_some (as_null d))

-- what the four members of a row say besides its properties
abbrev pub four_in : Items → Option RowHead
four_in no_items = None
four_in (item a no_items) = None
four_in (item a (item b no_items)) = None
four_in (item a (item b (item c no_items))) = None
four_in (item a (item b (item c (item d no_items)))) = option_map (λ id. record { id = id; is_document = is_document b; is_placed = is_given c }) (wide_in a)
four_in (item a (item b (item c (item d (item e ds))))) = None

-- what a row says besides its properties
abbrev pub head_in : Data → Option RowHead
head_in d = option_and_then four_in (members d)

-- it is the root, a document without a place
abbrev pub is_root : Option RowHead → Bool
is_root None = false
is_root (Some h) = is_eq (wide_cmp h.id wide_root) && (h.is_document && not h.is_placed)

-- it is the root's, a document without a place, or another's that has a place
abbrev pub is_row : Option RowHead → Bool
is_row None = false
is_row (Some h) = if is_eq (wide_cmp h.id wide_root) then h.is_document && not h.is_placed else h.is_placed

-- the second has a place, and a greater id than the first
abbrev pub is_after : Option RowHead → Option RowHead → Bool
is_after None s = false
is_after (Some h) None = false
is_after (Some h) (Some k) = is_lt (wide_cmp h.id k.id) && k.is_placed

-- each row is so after the one before it
abbrev pub are_after : Data → Items → Bool
are_after d no_items = true
are_after d (item e ds) = is_after (head_in d) (head_in e) && are_after e ds

-- each row but the first is so
abbrev pub are_each_after : Items → Bool
are_each_after no_items = true
are_each_after (item d ds) = are_after d ds

-- the first row is the root's; each other has a place, and a greater id than the one before it
abbrev pub are_rows : Items → Bool
are_rows no_items = false
are_rows (item d ds) = is_root (head_in d) && are_after d ds

-- the members of an array stand so
abbrev pub are_in_order : Data → Bool
are_in_order null = false
are_in_order (boolean b) = false
are_in_order (D.number n) = false
are_in_order (string s) = false
are_in_order (array ds) = are_rows ds
are_in_order (object ms) = false
