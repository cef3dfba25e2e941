-- How long the texts of edits are at most.
use Rattle.std.proofs.Common.{◌≡◌, ℕ, ◌+◌, ◌*◌, ◌/◌, ◌%◌, ◌^◌, ◌<◌, ◌≤◌, nat_lt, Bool, true, false, List, [], ◌∷◌, length, codes, Some, None, refl, arith, length-append}
use Rattle.std.specs.Prelude.{cond, pos, negsuc}
use Rattle.std.proofs.lemmas.Fmt.{length-decimal-le, length_signed_le}
use Rattle.std.specs.Char.{digit_char}
use Rattle.json.specs.Print.{escape_letter, escape_byte, escape}
use Rattle.serde_json.specs.Data.{Data, unsigned, number, string, array, Items, no_items, item}
use Rattle.serde_json.specs.Written.{compact_text, items_text}
use Rattle.canvas_model.specs.declared.ObjId.{ObjId}
use Rattle.canvas_model.specs.declared.Kind.{Kind}
use Rattle.canvas_model.specs.declared.Kind.TheVariants.{Document, Page, Frame, Shape, Text}
use Rattle.canvas_model.specs.Ids.{IsId}
use Rattle.canvas_model.specs.Value as value
use Rattle.canvas_model.specs.Document.{Place, Name}
use Rattle.canvas_model.specs.Change.{Change, Create, Set, Move, Delete}
use Rattle.canvas_model.specs.Messages as messages
use Rattle.canvas_codec.specs.Json.{json}
use Rattle.canvas_value.specs.Range.{fits}
use Rattle.canvas_doc.specs.Known.{IsPlace, IsChange}
use Rattle.canvas_forms.specs.Ids.{id_form}
use Rattle.canvas_forms.specs.Kinds.{kind_form}
use Rattle.canvas_forms.specs.Places.{place_form}
use Rattle.canvas_forms.specs.Changes.{change_form}
use Rattle.canvas_wire.specs.Text.{message_text}
use Rattle.room_handler.specs.Large.{SetsAtMost}

-- of two texts that are short enough, either is
length-cond : (b : Bool) (s t : List ℕ) (n : ℕ) → length s ≤ n → length t ≤ n → length (cond b s t) ≤ n
length-cond true s t n p q = p
length-cond false s t n p q = q

-- a byte becomes at most six
length-escape_byte : (x : ℕ) → length (escape_byte x) ≤ 6
unfolding escape_byte
length-escape_byte x =
    let code = 92 ∷ 117 ∷ 48 ∷ 48 ∷ digit_char (x / 16) ∷ digit_char (x % 16) ∷ [] in
    length-cond (nat_lt 0 (escape_letter x)) (92 ∷ escape_letter x ∷ []) (cond (nat_lt x 32) code (x ∷ [])) 6 (omega arith)
    (length-cond (nat_lt x 32) code (x ∷ []) 6 (omega arith) (omega arith))

length-escape : (s : List ℕ) → length (escape s) ≤ 6 * length s
length-escape [] = omega arith
length-escape (x ∷ s) = omega (arith, length-append (escape_byte x) (escape s), length-escape_byte x, length-escape s)

-- a text of at most so many bytes, in quotes
length-string : (s : List ℕ) (n : ℕ) → length s ≤ n → length (compact_text (string s)) ≤ 6 * n + 2
length-string s n short = omega (arith, length-append (escape s) (34 ∷ []), length-escape s)

length-number : (n : ℕ) → n < 2 ^ 64 → length (compact_text (number (unsigned n))) ≤ 20
length-number n small = length-decimal-le 20 n (omega arith) (omega arith) small

-- a member, and those after it
length-item : (later : Bool) (d : Data) (ds : Items) (m n : ℕ) → length (compact_text d) ≤ m → length (items_text true ds) ≤ n → length (items_text later (item d ds)) ≤ m + n + 1
length-item true d ds m n p q = omega (arith, length-append (compact_text d) (items_text true ds))
length-item false d ds m n p q = omega (arith, length-append (compact_text d) (items_text true ds))

-- the last member
length-last : (later : Bool) (d : Data) (m : ℕ) → length (compact_text d) ≤ m → length (items_text later (item d no_items)) ≤ m + 2
length-last later d m p = omega (arith, length-item later d no_items m 1 p (omega arith))

-- an array of two
length-two : (a b : Data) (m n : ℕ) → length (compact_text a) ≤ m → length (compact_text b) ≤ n → length (compact_text (array (item a (item b no_items)))) ≤ m + n + 4
length-two a b m n p q = omega (arith, length-item false a (item b no_items) m (n + 2) p (length-last true b n q))

length-three : (a b c : Data) (m n o : ℕ) → length (compact_text a) ≤ m → length (compact_text b) ≤ n → length (compact_text c) ≤ o
    → length (compact_text (array (item a (item b (item c no_items))))) ≤ m + n + o + 5
length-three a b c m n o p q r =
    omega (arith, length-item false a (item b (item c no_items)) m (n + (o + 2) + 1) p (length-item true b (item c no_items) n (o + 2) q (length-last true c o r)))

length-four : (a b c d : Data) (m n o p : ℕ) → length (compact_text a) ≤ m → length (compact_text b) ≤ n → length (compact_text c) ≤ o → length (compact_text d) ≤ p
    → length (compact_text (array (item a (item b (item c (item d no_items)))))) ≤ m + n + o + p + 6
length-four a b c d m n o p h i j k =
    let rest = length-item true c (item d no_items) o (p + 2) j (length-last true d p k) in
    omega (
      arith,
      length-item false a (item b (item c (item d no_items))) m (n + (o + (p + 2) + 1) + 1) h
          (length-item true b (item c (item d no_items)) n (o + (p + 2) + 1) i rest),
    )

length-id : (id : ObjId) → IsId id → length (compact_text (id_form.write id)) ≤ 44
length-id id is =
    length-two (number (unsigned id.client)) (number (unsigned id.counter)) 20 20 (length-number id.client (omega (arith, is.0))) (length-number id.counter (omega (arith, is.1)))

length-kind : (kind : Kind) → length (compact_text (kind_form.write kind)) ≤ 50
length-kind Document = length-string (codes "document") 8 (omega arith)
length-kind Page = length-string (codes "page") 8 (omega arith)
length-kind Frame = length-string (codes "frame") 8 (omega arith)
length-kind Shape = length-string (codes "shape") 8 (omega arith)
length-kind Text = length-string (codes "text") 8 (omega arith)

length-place : (place : Place) → IsPlace place → length (compact_text (place_form.write place)) ≤ 818
length-place place is = length-two (id_form.write place.parent) (string place.pos) 44 770 (length-id place.parent is.parent) (length-string place.pos 128 is.pos.short)

-- a value that is no list, and no longer text than that
abbrev IsFlat : value.Value → ℕ → Type 0
IsFlat (value.text s) n = length s ≤ n
IsFlat (value.list vs) n = ⊥
IsFlat _ n = Unit {0}

length-value : (v : value.Value) (n : ℕ) → fits v ≡ true → IsFlat v n → length (compact_text (json v)) ≤ 6 * n + 50
length-value (value.number (pos m)) n is flat = omega (arith, length-number m (grind arith))
length-value (value.number (negsuc m)) n is flat = omega (arith, length_signed_le 19 (negsuc m) (grind arith) (grind arith))
length-value (value.truth true) n is flat = omega arith
length-value (value.truth false) n is flat = omega arith
length-value (value.colour c) n is flat = omega (arith, length-two (string (codes "rgba")) (number (unsigned c)) 26 20 (length-string (codes "rgba") 4 (omega arith)) (length-number c (grind arith)))
length-value (value.text s) n is flat = omega (arith, length-string s n flat)
length-value (value.list vs) n is flat = elim flat [ ]

-- what a change sets that sets no list
flat_of : (id : ObjId) (name : Name) (v : value.Value) (n : ℕ) → SetsAtMost (Set id name (Some v)) n → IsFlat v n
flat_of id name (value.number m) n flat = tt
flat_of id name (value.truth b) n flat = tt
flat_of id name (value.colour c) n flat = tt
flat_of id name (value.text s) n flat = flat
flat_of id name (value.list vs) n flat = flat

-- what a change asks for
length-change : (c : Change) (n : ℕ) → IsChange c → SetsAtMost c n → length (compact_text (change_form.write c)) ≤ 6 * n + 956
length-change (Create id kind place) n is flat =
    let total : length (compact_text (change_form.write (Create id kind place))) ≤ 38 + 44 + 50 + 818 + 6 =
    length-four (string (codes "create")) (id_form.write id) (kind_form.write kind) (place_form.write place) 38 44 50 818
    (length-string (codes "create") 6 (omega arith)) (length-id id is.0) (length-kind kind) (length-place place is.1) in
    omega (arith, total)
length-change (Set id name (Some v)) n is flat =
    let total : length (compact_text (change_form.write (Set id name (Some v)))) ≤ 20 + 44 + 194 + (6 * n + 50) + 6 =
    length-four (string (codes "set")) (id_form.write id) (string name) (json v) 20 44 194 (6 * n + 50)
    (length-string (codes "set") 3 (omega arith)) (length-id id is.0) (length-string name 32 is.1.name.1) (length-value v n (is.1.range v refl) (flat_of id name v n flat)) in
    omega (arith, total)
length-change (Set id name None) n is flat =
    let total : length (compact_text (change_form.write (Set id name None))) ≤ 32 + 44 + 194 + 5 =
    length-three (string (codes "clear")) (id_form.write id) (string name) 32 44 194
    (length-string (codes "clear") 5 (omega arith)) (length-id id is.0) (length-string name 32 is.1.name.1) in
    omega (arith, total)
length-change (Move id place) n is flat =
    let total : length (compact_text (change_form.write (Move id place))) ≤ 26 + 44 + 818 + 5 =
    length-three (string (codes "move")) (id_form.write id) (place_form.write place) 26 44 818
    (length-string (codes "move") 4 (omega arith)) (length-id id is.0) (length-place place is.1) in
    omega (arith, total)
length-change (Delete id) n is flat =
    let total : length (compact_text (change_form.write (Delete id))) ≤ 38 + 44 + 4 =
    length-two (string (codes "delete")) (id_form.write id) 38 44 (length-string (codes "delete") 6 (omega arith)) (length-id id is) in
    omega (arith, total)

-- an edit
pub length-edit : (client seq : ℕ) (c : Change) (n : ℕ) → client < 2 ^ 32 → seq < 2 ^ 64 → IsChange c → SetsAtMost c n → length (message_text (messages.Edit client seq c)) ≤ 6 * n + 1028
length-edit client seq c n small fine is flat =
    let total : length (message_text (messages.Edit client seq c)) ≤ 26 + 20 + 20 + (6 * n + 956) + 6 =
    length-four (string (codes "edit")) (number (unsigned client)) (number (unsigned seq)) (change_form.write c) 26 20 20 (6 * n + 956)
    (length-string (codes "edit") 4 (omega arith)) (length-number client (omega (arith, small))) (length-number seq fine) (length-change c n is flat) in
    omega (arith, total)
