-- JSON trees without objects, whose numbers are whole ones of 64 bits: their compact texts are read as they are. Rows and entries are such.
use Rattle.std.proofs.Common.{◌≡◌, ℕ, suc, ◌^◌, ◌<◌, ◌≤◌, ◌&&◌, nat_lt, max, pos, negsuc, List, [], ◌∷◌, Bool, true, false, true≢false, Option, Some, None, option_map, option_and_then, refl, ap, ap₂, sym, subst, ◌∙◌, arith, append-nil}
use Rattle.std.specs.FinMap as map
use Rattle.json.specs.Json as json
use Rattle.json.specs.Lex.{tokens}
use Rattle.json.specs.Print.{IsNumber}
use Rattle.json.specs.Tree as tree
use Rattle.json.specs.Tree.{HasNumbers, ItemsHaveNumbers, json_tokens}
use Rattle.json.proofs.Printed.Decimals.{IsNumber-decimal, IsNumber-signed_decimal}
use Rattle.json.proofs.Printed.Tokens.{tokens-print}
use Rattle.json.proofs.Printed.Trees.{value-json_tokens, ArePrintable-json_tokens}
use Rattle.serde_json.specs.Data as D
use Rattle.serde_json.specs.Data.{Num, unsigned, negative, float, Data, null, boolean, string, array, object, Items, no_items, item}
use Rattle.serde_json.specs.Read.{number_of, of_json, of_items, read}
use Rattle.serde_json.specs.Written.{number_text, outline, items_outline, compact_text}
use Rattle.serde_json.proofs.Numbers.{number_of-decimal, number_of-negative}
use Rattle.serde_json.proofs.Texts.{print-outline}
use Rattle.canvas_model.specs.declared.ObjId.{ObjId}
use Rattle.canvas_model.specs.Change.{Change, Create, Set, Move, Delete}
use Rattle.canvas_model.specs.Verdict.{Outcome, Joined, Created, WasSet, Moved, Removed, Refused, number_of as reason_number}
use Rattle.canvas_model.specs.Log.{What, Join, Edit, Entry}
use Rattle.canvas_model.specs.Value as value
use Rattle.canvas_model.specs.Value.{Value, Values, no_more, more}
use Rattle.canvas_model.specs.Document.{Object, Place, Name}
use Rattle.canvas_codec.specs.Json as value_json
use Rattle.canvas_value.specs.Range as range
use Rattle.canvas_value.specs.Range.{is_within}
use Rattle.canvas_codec.specs.Parts.{each_test, each_written, maybe_test, maybe_written}
use Rattle.canvas_value.proofs.Tests.{both_hold, both_true}
use Rattle.canvas_forms.specs.Version.{version_two}
use Rattle.canvas_forms.specs.Ids.{client_form, id_form}
use Rattle.canvas_forms.specs.Places.{place_form}
use Rattle.canvas_forms.specs.Changes.{change_form}
use Rattle.canvas_forms.specs.Outcomes.{outcome_form, reason_form}
use Rattle.canvas_forms.specs.Entries.{what_form, entry_form}
use Rattle.canvas_forms.specs.Rows.{prop_form, row_form}
use Rattle.canvas_model.proofs.Tests.{lt_true}

-- a whole number of 64 bits
abbrev is_whole : Num → Bool
is_whole (unsigned n) = nat_lt n (2 ^ 64)
is_whole (negative (pos n)) = false
is_whole (negative (negsuc n)) = nat_lt n (2 ^ 63)
is_whole (float x) = false

-- no object is in the JSON tree, and its numbers are such
abbrev mutual
  pub is_plain : Data → Bool
  is_plain null = true
  is_plain (boolean b) = true
  is_plain (D.number n) = is_whole n
  is_plain (string s) = true
  is_plain (array ds) = are_plain ds
  is_plain (object ms) = false

  pub are_plain : Items → Bool
  are_plain no_items = true
  are_plain (item d ds) = is_plain d && are_plain ds

-- ---- a plain JSON tree's text is read as it

number_is : (n : Num) → is_whole n ≡ true → IsNumber (number_text n)
number_is (unsigned n) e = IsNumber-decimal n (lt_true n (2 ^ 64) e)
number_is (negative (pos n)) e = absurd (true≢false (sym e))
number_is (negative (negsuc n)) e = IsNumber-signed_decimal (negsuc n) (lt_true n (2 ^ 63) e)
number_is (float x) e = absurd (true≢false (sym e))

number_back : (n : Num) → is_whole n ≡ true → number_of (number_text n) ≡ Some n
number_back (unsigned n) e = number_of-decimal n (lt_true n (2 ^ 64) e)
number_back (negative (pos n)) e = absurd (true≢false (sym e))
number_back (negative (negsuc n)) e = number_of-negative n (lt_true n (2 ^ 63) e)
number_back (float x) e = absurd (true≢false (sym e))

mutual
  numbers_are : (d : Data) → is_plain d ≡ true → HasNumbers (outline d)
  numbers_are null e = tt
  numbers_are (boolean b) e = tt
  numbers_are (D.number n) e = number_is n e
  numbers_are (string s) e = tt
  numbers_are (array ds) e = items_numbers_are ds e
  numbers_are (object ms) e = absurd (true≢false (sym e))

  items_numbers_are : (ds : Items) → are_plain ds ≡ true → ItemsHaveNumbers (items_outline ds)
  items_numbers_are no_items e = tt
  items_numbers_are (item d ds) e = let h = both_hold (is_plain d) (are_plain ds) e in (numbers_are d h.0, items_numbers_are ds h.1)

mutual
  outline_back : (d : Data) → is_plain d ≡ true → of_json (outline d) ≡ Some d
  outline_back null e = refl
  outline_back (boolean b) e = refl
  outline_back (D.number n) e = ap (option_map D.number) (number_back n e)
  outline_back (string s) e = refl
  outline_back (array ds) e = ap (option_map array) (items_outline_back ds e)
  outline_back (object ms) e = absurd (true≢false (sym e))

  items_outline_back : (ds : Items) → are_plain ds ≡ true → of_items (items_outline ds) ≡ Some ds
  items_outline_back no_items e = refl
  items_outline_back (item d ds) e = let h = both_hold (is_plain d) (are_plain ds) e in rw (outline_back d h.0, items_outline_back ds h.1) refl

mutual
  outline_depth : (d : Data) → is_plain d ≡ true → tree.depth (outline d) ≡ D.depth d
  outline_depth null e = refl
  outline_depth (boolean b) e = refl
  outline_depth (D.number n) e = refl
  outline_depth (string s) e = refl
  outline_depth (array ds) e = ap suc (items_outline_depth ds e)
  outline_depth (object ms) e = absurd (true≢false (sym e))

  items_outline_depth : (ds : Items) → are_plain ds ≡ true → tree.items_depth (items_outline ds) ≡ D.items_depth ds
  items_outline_depth no_items e = refl
  items_outline_depth (item d ds) e = let h = both_hold (is_plain d) (are_plain ds) e in ap₂ max (outline_depth d h.0) (items_outline_depth ds h.1)

pub plain_back : (d : Data) → is_plain d ≡ true → D.depth d ≤ 127 → read (compact_text d) ≡ Some d
plain_back d plain small =
    let j = outline d in
    let same : tokens (compact_text d) ≡ json_tokens j = ap tokens (sym (print-outline d)) ∙ tokens-print (json_tokens j) (ArePrintable-json_tokens j (numbers_are d plain)) in
    let shallow : tree.depth j ≤ 127 = subst (λ n. n ≤ 127) (sym (outline_depth d plain)) small in
    ap (λ ts. option_and_then of_json (option_and_then (λ p. json.if_last p.0 p.1) (json.value 127 ts))) (same ∙ sym (append-nil (json_tokens j)))
    ∙ ap (λ o. option_and_then of_json (option_and_then (λ p. json.if_last p.0 p.1) o)) (value-json_tokens j 127 [] shallow)
    ∙ outline_back d plain

-- ---- what is written of rows is plain

of_64 : (n : ℕ) → nat_lt n (2 ^ 63) ≡ true → nat_lt n (2 ^ 64) ≡ true
of_64 n e = grind (arith, e)

pub small_of_64 : (n : ℕ) → is_within 0 4294967295 n ≡ true → nat_lt n (2 ^ 64) ≡ true
small_of_64 n e = grind (arith, e)

mutual
  value_plain : (v : Value) → range.fits v ≡ true → is_plain (value_json.json v) ≡ true
  value_plain (value.number (pos n)) e = of_64 n e
  value_plain (value.number (negsuc n)) e = e
  value_plain (value.truth b) e = refl
  value_plain (value.colour c) e = rw (small_of_64 c e) refl
  value_plain (value.text s) e = refl
  value_plain (value.list vs) e = values_plain vs e

  values_plain : (vs : Values) → range.all_fit vs ≡ true → are_plain (value_json.jsons vs) ≡ true
  values_plain no_more e = refl
  values_plain (more v vs) e = let h = both_hold (range.fits v) (range.all_fit vs) e in both_true (is_plain (value_json.json v)) (are_plain (value_json.jsons vs)) (value_plain v h.0) (values_plain vs h.1)

id_plain : (id : ObjId) → id_form.fits id ≡ true → is_plain (id_form.write id) ≡ true
id_plain id e =
    let h = both_hold (client_form.fits id.client) (client_form.fits id.counter && true) e in
    let k = both_hold (client_form.fits id.counter) true h.1 in
    rw (small_of_64 id.client h.0, small_of_64 id.counter k.0) refl

place_plain : (place : Option Place) → maybe_test place_form.fits place ≡ true → is_plain (maybe_written place_form.write place) ≡ true
place_plain None e = refl
place_plain (Some place) e = let h = both_hold (id_form.fits place.parent) true e in rw (id_plain place.parent h.0) refl

props_plain : (es : List (Name × Value)) → each_test prop_form.fits es ≡ true → are_plain (each_written prop_form.write es) ≡ true
props_plain [] e = refl
props_plain (p ∷ ps) e =
    let h = both_hold (prop_form.fits p) (each_test prop_form.fits ps) e in
    let k = both_hold (range.fits p.1) true h.0 in
    rw (value_plain p.1 k.0, props_plain ps h.1) refl

row_plain : (row : ObjId × Object) → row_form.fits row ≡ true → is_plain (row_form.write row) ≡ true
row_plain row e =
    let rest = maybe_test place_form.fits row.1.place && (each_test prop_form.fits (map.entries row.1.props) && true) in
    let h = both_hold (id_form.fits row.0) rest e in
    let k = both_hold (maybe_test place_form.fits row.1.place) (each_test prop_form.fits (map.entries row.1.props) && true) h.1 in
    let l = both_hold (each_test prop_form.fits (map.entries row.1.props)) true k.1 in
    rw (id_plain row.0 h.0, place_plain row.1.place k.0, props_plain (map.entries row.1.props) l.0) refl

pub rows_plain : (es : List (ObjId × Object)) → each_test row_form.fits es ≡ true → are_plain (each_written row_form.write es) ≡ true
rows_plain [] e = refl
rows_plain (row ∷ rows) e =
    let h = both_hold (row_form.fits row) (each_test row_form.fits rows) e in
    both_true (is_plain (row_form.write row)) (are_plain (each_written row_form.write rows)) (row_plain row h.0) (rows_plain rows h.1)

-- ---- what is written of entries is plain

place_written : (place : Place) → place_form.fits place ≡ true → is_plain (place_form.write place) ≡ true
place_written place e = place_plain (Some place) e

change_plain : (change : Change) → change_form.fits change ≡ true → is_plain (change_form.write change) ≡ true
change_plain (Create id kind place) e =
    let h = both_hold (id_form.fits id) (place_form.fits place && true) e in
    let k = both_hold (place_form.fits place) true h.1 in
    rw (id_plain id h.0, place_written place k.0) refl
change_plain (Set id name (Some v)) e =
    let h = both_hold (id_form.fits id) (range.fits v && true) e in
    let k = both_hold (range.fits v) true h.1 in
    rw (id_plain id h.0, value_plain v k.0) refl
change_plain (Set id name None) e = let h = both_hold (id_form.fits id) true e in rw (id_plain id h.0) refl
change_plain (Move id place) e =
    let h = both_hold (id_form.fits id) (place_form.fits place && true) e in
    let k = both_hold (place_form.fits place) true h.1 in
    rw (id_plain id h.0, place_written place k.0) refl
change_plain (Delete id) e = let h = both_hold (id_form.fits id) true e in rw (id_plain id h.0) refl

what_plain : (what : What) → what_form.fits what ≡ true → is_plain (what_form.write what) ≡ true
what_plain Join e = refl
what_plain (Edit change) e = change_plain change e

ids_plain : (ids : List ObjId) → each_test id_form.fits ids ≡ true → are_plain (each_written id_form.write ids) ≡ true
ids_plain [] e = refl
ids_plain (id ∷ ids) e =
    let h = both_hold (id_form.fits id) (each_test id_form.fits ids) e in
    both_true (is_plain (id_form.write id)) (are_plain (each_written id_form.write ids)) (id_plain id h.0) (ids_plain ids h.1)

reason_of_64 : (n : ℕ) → is_within 1 8 n ≡ true → nat_lt n (2 ^ 64) ≡ true
reason_of_64 n e = grind (arith, e)

outcome_plain : (outcome : Outcome) → (outcome_form version_two).fits outcome ≡ true → is_plain ((outcome_form version_two).write outcome) ≡ true
outcome_plain (Joined client) e = let h = both_hold (client_form.fits client) true e in rw (small_of_64 client h.0) refl
outcome_plain (Created place) e = let h = both_hold (place_form.fits place) true e in rw (place_written place h.0) refl
outcome_plain WasSet e = refl
outcome_plain (Moved place) e = let h = both_hold (place_form.fits place) true e in rw (place_written place h.0) refl
outcome_plain (Removed ids) e = let h = both_hold (each_test id_form.fits ids) true e in rw (ids_plain ids h.0) refl
outcome_plain (Refused reason None) e = let h = both_hold ((reason_form version_two).fits reason) true e in rw (reason_of_64 (reason_number reason) h.0) refl
outcome_plain (Refused reason (Some place)) e =
    let h = both_hold ((reason_form version_two).fits reason) (place_form.fits place && true) e in
    let k = both_hold (place_form.fits place) true h.1 in
    rw (reason_of_64 (reason_number reason) h.0, place_written place k.0) refl

seq_of_64 : (n : ℕ) → n < 2 ^ 64 → nat_lt n (2 ^ 64) ≡ true
seq_of_64 n h = grind (arith, h)

pub entry_plain : (e : Entry) → client_form.fits e.author ≡ true → e.seq < 2 ^ 64 → what_form.fits e.what ≡ true → (outcome_form version_two).fits e.outcome ≡ true → is_plain ((entry_form version_two).write e) ≡ true
entry_plain e author seq what outcome = rw (small_of_64 e.author author, seq_of_64 e.seq seq, what_plain e.what what, outcome_plain e.outcome outcome) refl
