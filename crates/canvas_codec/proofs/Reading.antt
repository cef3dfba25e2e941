-- Reading the members of a list of values.
use Rattle.std.proofs.Common.{◌≡◌, ℕ, zero, suc, ◌<◌, ◌≤◌, ◌&&◌, List, [], ◌∷◌, length, get_or, take, Bool, true, false, Option, Some, None, option_map, option_and_then, codes, bytes_eq, refl, ap, sym, ◌∙◌, arith}
use Rattle.serde_json.specs.Data as D
use Rattle.serde_json.specs.Data.{Data, null, boolean, object, string, array, Items, no_items, item}
use Rattle.serde_json.specs.View.{view, items_view}
use Rattle.serde_json.specs.declared.value.Value.{Value as Json}
use Rattle.canvas_model.specs.Value.{Value, Values, more, values_of, list}
use Rattle.canvas_codec.specs.ReadList.{both, read_list}
use Rattle.canvas_codec.specs.Parts.{head_word, with_fit}
use Rattle.canvas_codec.specs.Json.{read, read_all, colour_in}
use Rattle.canvas_codec.specs.Faults.{RefusesShape}
use Rattle.canvas_codec.specs.declared.json_fault.JsonFault.{JsonFault}
use Rattle.canvas_codec.specs.declared.json_fault.JsonFault.TheVariants.{NotAValue, OutOfRange, Memory}
use Rattle.canvas_codec.proofs.ReadLists.{read_list-none}

abbrev pub read_value : Json → Option (Value × Bool)
read_value v = read (view v)

abbrev as_values : List Value × Bool → Values × Bool
as_values r = (values_of r.0, r.1)

step : (p : Option (Value × Bool)) (r : Option (List Value × Bool)) → option_and_then (λ q. option_map (λ ps. (more q.0 ps.0, q.1 && ps.1)) (option_map as_values r)) p ≡ option_map as_values (both p r)
step None r = refl
step (Some p) None = refl
step (Some p) (Some r) = refl

pub read_all_is : (vs : List Json) → read_all (items_view vs) ≡ option_map as_values (read_list read_value vs)
read_all_is [] = refl
read_all_is (v ∷ vs) = ap (λ r. option_and_then (λ q. option_map (λ ps. (more q.0 ps.0, q.1 && ps.1)) r) (read_value v)) (read_all_is vs) ∙ step (read_value v) (read_list read_value vs)

take_whole : {X : Type 0} (xs : List X) (i : ℕ) → length xs ≤ i → take i xs ≡ xs
take_whole [] zero h = refl
take_whole [] (suc i) h = refl
take_whole (x ∷ xs) zero h = absurd (omega arith)
take_whole (x ∷ xs) (suc i) h = ap (λ r. x ∷ r) (take_whole xs i (omega arith))

-- once all members have been read
pub read_all_done : (vs : List Json) (i : ℕ) (xs : List Value) (a : Bool) → length vs ≤ i → read_list read_value (take i vs) ≡ Some (xs, a) → read_all (items_view vs) ≡ Some (values_of xs, a)
read_all_done vs i xs a h e = read_all_is vs ∙ ap (option_map as_values) (sym (ap (read_list read_value) (take_whole vs i h)) ∙ e)

-- a member that is no value
pub read_all_none : (vs : List Json) (i : ℕ) (d : Json) → i < length vs → read (view (get_or vs i d)) ≡ None → read_all (items_view vs) ≡ None
read_all_none vs i d h e = read_all_is vs ∙ ap (option_map as_values) (read_list-none read_value vs i d h e)

-- a refusal of a part is one of the whole
pub refused_part : {X Y : Type 0} (r : Option X) (s : Option Y) (e : JsonFault) → (r ≡ None → s ≡ None) → RefusesShape r e → RefusesShape s e
refused_part r s NotAValue f h = f h
refused_part r s OutOfRange f h = h
refused_part r s Memory f h = tt

-- two arrays apart: one with just one member, and any other
pub not_one : (vs : List Json) → (length vs ≡ 1 → ⊥) → colour_in (items_view vs) ≡ None
not_one [] h = refl
not_one (v ∷ []) h = absurd (h refl)
not_one (v ∷ w ∷ vs) h = refl

pub list_meant : (items rest : List Json) (word : List ℕ) → items_view items ≡ item (string word) (items_view rest) → bytes_eq word (codes "rgba") ≡ false → bytes_eq word (codes "list") ≡ true
    → read (array (items_view items)) ≡ option_map (with_fit list) (read_all (items_view rest))
list_meant items rest word e f h = ap (λ ds. read (array ds)) e ∙ rw (f, h)

pub one_member : (vs : List Json) (d : Json) → length vs ≡ 1 → items_view vs ≡ item (view (get_or vs 0 d)) no_items
one_member [] d h = absurd (omega arith)
one_member (v ∷ []) d h = refl
one_member (v ∷ w ∷ vs) d h = absurd (omega arith)

pub no_word : (ds : Items) → head_word ds ≡ None → read (array ds) ≡ None
no_word no_items e = refl
no_word (item null ds) e = refl
no_word (item (boolean b) ds) e = refl
no_word (item (D.number n) ds) e = refl
no_word (item (string s) ds) e = cc
no_word (item (array es) ds) e = refl
no_word (item (object ms) ds) e = refl

pub word_first : (ds : Items) (s : List ℕ) (es : Items) → head_word ds ≡ Some (s, es) → ds ≡ item (string s) es
word_first no_items s es e = cc
word_first (item null ds) s es e = cc
word_first (item (boolean b) ds) s es e = cc
word_first (item (D.number n) ds) s es e = cc
word_first (item (string t) ds) s es e =
    let pair : ◌≡◌ {A = List ℕ × Items} (t, ds) (s, es) = cc in
    let first : t ≡ s = ap (λ p. p.0) pair in
    let rest : ds ≡ es = ap (λ p. p.1) pair in
    cc
word_first (item (array d) ds) s es e = cc
word_first (item (object ms) ds) s es e = cc
