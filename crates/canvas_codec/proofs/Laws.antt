-- The laws of the JSON of values.
use Rattle.std.proofs.Common.{◌≡◌, ℕ, ◌^◌, ◌&&◌, ℤ, pos, negsuc, List, Bool, true, false, true≢false, cond, nat_lt, Option, Some, None, is_some, option_map, option_and_then, codes, bytes_eq, refl, ap, sym, ◌∙◌}
use Rattle.std.proofs.lemmas.Slice.Eq.{bytes_eq-Decides}
use Rattle.serde_json.specs.Data as D
use Rattle.serde_json.specs.Data.{Data, null, boolean, object, string, array, Items, no_items, item, unsigned, negative, float}
use Rattle.canvas_model.specs.Value.{Value, number, truth, colour, text, list, Values, more, no_more}
use Rattle.canvas_codec.specs.Shape.{shape, shapes}
use Rattle.canvas_codec.specs.Codec.{IsCodec, StandsFor}
use Rattle.canvas_value.specs.Range.{all_fit, fits, is_within}
use Rattle.canvas_codec.specs.Parts.{whole_in, with_fit}
use Rattle.canvas_codec.specs.Json.{json, jsons, read, read_all, colour_in, value_form}
use Rattle.canvas_codec.specs.Faults.{Refuses, IsJsonFault}
use Rattle.canvas_codec.specs.declared.json_fault.JsonFault.{JsonFault}
use Rattle.canvas_codec.specs.declared.json_fault.JsonFault.TheVariants.{NotAValue, OutOfRange, Memory}
use Rattle.canvas_codec.proofs.Forms.{first, second, some_mapped, out_of_range, no_shape}
use Rattle.canvas_value.proofs.Tests.{both_hold, both_true}

-- ---- what was read in range is in range, and the JSON tree is its own

number_case : (b : Bool) (z : ℤ) (v : Value) → option_map (with_fit number) (cond b (Some (z, true)) (Some (pos 0, false))) ≡ Some (v, true) → (b ≡ true) × (number z ≡ v)
number_case true z v e = (refl, first e)
number_case false z v e = absurd (true≢false (sym (second e)))

colour_case : (b : Bool) (n : ℕ) (v : Value) → option_map (with_fit colour) (cond b (Some (n, true)) (Some (0, false))) ≡ Some (v, true) → (b ≡ true) × (colour n ≡ v)
colour_case true n v e = (refl, first e)
colour_case false n v e = absurd (true≢false (sym (second e)))

colour_exact : (ds : Items) (v : Value) → colour_in ds ≡ Some (v, true) → (json v ≡ array (item (string (codes "rgba")) ds)) × (fits v ≡ true)
colour_exact no_items v e = cc
colour_exact (item null no_items) v e = cc
colour_exact (item (boolean b) no_items) v e = cc
colour_exact (item (D.number (unsigned n)) no_items) v e =
    let h = colour_case (is_within 0 4294967295 n) n v e in
    (sym (ap json h.1), sym (ap fits h.1) ∙ h.0)
colour_exact (item (D.number (negative (pos n))) no_items) v e = cc
colour_exact (item (D.number (negative (negsuc n))) no_items) v e = absurd (true≢false (sym (second e)))
colour_exact (item (D.number (float x)) no_items) v e = cc
colour_exact (item (string s) no_items) v e = cc
colour_exact (item (array es) no_items) v e = cc
colour_exact (item (object ms) no_items) v e = cc
colour_exact (item d (item f ds)) v e = cc

-- where an array's first word is known
tagged_exact : (b c : Bool) (s : List ℕ) (ds : Items) (v : Value) (all : Option (Values × Bool))
    → (b ≡ true → s ≡ codes "rgba") → (c ≡ true → s ≡ codes "list")
    → ((vs : Values) → all ≡ Some (vs, true) → (jsons vs ≡ ds) × (all_fit vs ≡ true))
    → cond b (colour_in ds) (cond c (option_map (with_fit list) all) None) ≡ Some (v, true) → (json v ≡ array (item (string s) ds)) × (fits v ≡ true)
tagged_exact true c s ds v all f g h e =
    let k = colour_exact ds v e in
    (k.0 ∙ ap (λ w. array (item (string w) ds)) (sym (f refl)), k.1)
tagged_exact false true s ds v None f g h e = cc
tagged_exact false true s ds v (Some r) f g h e =
    let k = h r.0 (ap (λ b. Some (r.0, b)) (second e)) in (
      sym (ap json (first e)) ∙ ap (λ es. array (item (string (codes "list")) es)) k.0 ∙ ap (λ w. array (item (string w) ds)) (sym (g refl)),
      sym (ap fits (first e)) ∙ k.1,
    )
tagged_exact false false s ds v all f g h e = cc

more_exact : (x : Option (Value × Bool)) (all : Option (Values × Bool)) (d : Data) (ds : Items) (vs : Values)
    → ((v : Value) → x ≡ Some (v, true) → (json v ≡ d) × (fits v ≡ true)) → ((ws : Values) → all ≡ Some (ws, true) → (jsons ws ≡ ds) × (all_fit ws ≡ true))
    → option_and_then {U = Values × Bool} (λ w. option_map (λ ws. (more w.0 ws.0, w.1 && ws.1)) all) x ≡ Some (vs, true) → (jsons vs ≡ item d ds) × (all_fit vs ≡ true)
more_exact None all d ds vs f g e = cc
more_exact (Some x) None d ds vs f g e = cc
more_exact (Some x) (Some r) d ds vs f g e =
    let fit = both_hold x.1 r.1 (second e) in
    let one = f x.0 (ap (λ b. Some (x.0, b)) fit.0) in
    let rest = g r.0 (ap (λ b. Some (r.0, b)) fit.1) in
    (sym (ap jsons (first e)) ∙ (λ i. item (one.0 i) (rest.0 i)), sym (ap all_fit (first e)) ∙ both_true (fits x.0) (all_fit r.0) one.1 rest.1)

mutual
  pub read_exact : (d : Data) (v : Value) → read d ≡ Some (v, true) → (json v ≡ d) × (fits v ≡ true)
  read_exact null v e = cc
  read_exact (boolean b) v e = (sym (ap json (first e)), sym (ap fits (first e)))
  read_exact (D.number (unsigned n)) v e = let h = number_case (nat_lt n (2 ^ 63)) (pos n) v e in (sym (ap json h.1), sym (ap fits h.1) ∙ h.0)
  read_exact (D.number (negative (pos n))) v e = cc
  read_exact (D.number (negative (negsuc n))) v e = let h = number_case (nat_lt n (2 ^ 63)) (negsuc n) v e in (sym (ap json h.1), sym (ap fits h.1) ∙ h.0)
  read_exact (D.number (float x)) v e = cc
  read_exact (string s) v e = (sym (ap json (first e)), sym (ap fits (first e)))
  read_exact (array no_items) v e = cc
  read_exact (array (item null ds)) v e = cc
  read_exact (array (item (boolean b) ds)) v e = cc
  read_exact (array (item (D.number n) ds)) v e = cc
  read_exact (array (item (string s) ds)) v e =
      tagged_exact (bytes_eq s (codes "rgba")) (bytes_eq s (codes "list")) s ds v (read_all ds) (bytes_eq-Decides s (codes "rgba")).0 (bytes_eq-Decides s (codes "list")).0 (read_all_exact ds) e
  read_exact (array (item (array es) ds)) v e = cc
  read_exact (array (item (object ms) ds)) v e = cc
  read_exact (object ms) v e = cc

  read_all_exact : (ds : Items) (vs : Values) → read_all ds ≡ Some (vs, true) → (jsons vs ≡ ds) × (all_fit vs ≡ true)
  read_all_exact no_items vs e = (sym (ap jsons (first e)), sym (ap all_fit (first e)))
  read_all_exact (item d ds) vs e = more_exact (read d) (read_all ds) d ds vs (read_exact d) (read_all_exact ds) e

-- ---- the JSON tree of a value is read as that value

number_back : (b : Bool) (z : ℤ) → b ≡ true → option_map (with_fit number) (cond b (Some (z, true)) (Some (pos 0, false))) ≡ Some (number z, true)
number_back true z e = refl
number_back false z e = absurd (true≢false (sym e))

colour_back : (b : Bool) (n : ℕ) → b ≡ true → option_map (with_fit colour) (cond b (Some (n, true)) (Some (0, false))) ≡ Some (colour n, true)
colour_back true n e = refl
colour_back false n e = absurd (true≢false (sym e))

mutual
  reads_back : (v : Value) → fits v ≡ true → read (json v) ≡ Some (v, true)
  reads_back (number (pos n)) e = number_back (nat_lt n (2 ^ 63)) (pos n) e
  reads_back (number (negsuc n)) e = number_back (nat_lt n (2 ^ 63)) (negsuc n) e
  reads_back (truth b) e = refl
  reads_back (colour c) e = colour_back (is_within 0 4294967295 c) c e
  reads_back (text s) e = refl
  reads_back (list vs) e = ap (option_map (with_fit list)) (reads_all_back vs e)

  reads_all_back : (vs : Values) → all_fit vs ≡ true → read_all (jsons vs) ≡ Some (vs, true)
  reads_all_back no_more e = refl
  reads_all_back (more v vs) e =
      let each = both_hold (fits v) (all_fit vs) e in
      rw (reads_back v each.0, reads_all_back vs each.1) refl

-- ---- something is read of a JSON tree exactly where it is of its shape

some_either : {X : Type 0} (b : Bool) (x y : X) → is_some (cond b (Some x) (Some y)) ≡ true
some_either true x y = refl
some_either false x y = refl

some_number : (b : Bool) (z : ℤ) → is_some (option_map (with_fit number) (cond b (Some (z, true)) (Some (pos 0, false)))) ≡ true
some_number b z = some_mapped (with_fit number) (cond b (Some (z, true)) (Some (pos 0, false))) ∙ some_either b (z, true) (pos 0, false)

whole_shape : (d : Data) → is_some (whole_in 0 4294967295 d) ≡ is_some (whole_in 0 4294967295 (shape d))
whole_shape null = refl
whole_shape (boolean b) = refl
whole_shape (D.number (unsigned n)) = some_either (is_within 0 4294967295 n) (n, true) (0, false)
whole_shape (D.number (negative (pos n))) = refl
whole_shape (D.number (negative (negsuc n))) = refl
whole_shape (D.number (float x)) = refl
whole_shape (string s) = refl
whole_shape (array ds) = refl
whole_shape (object ms) = refl

colour_shape : (ds : Items) → is_some (colour_in ds) ≡ is_some (colour_in (shapes ds))
colour_shape no_items = refl
colour_shape (item d no_items) = some_mapped (with_fit colour) (whole_in 0 4294967295 d) ∙ whole_shape d ∙ sym (some_mapped (with_fit colour) (whole_in 0 4294967295 (shape d)))
colour_shape (item d (item e ds)) = refl

some_cond : {X : Type 0} (b c : Bool) (o o' a a' : Option X) → is_some o ≡ is_some o' → is_some a ≡ is_some a' → is_some (cond b o (cond c a None)) ≡ is_some (cond b o' (cond c a' None))
some_cond true c o o' a a' e f = e
some_cond false true o o' a a' e f = f
some_cond false false o o' a a' e f = refl

some_both : (x x' : Option (Value × Bool)) (r r' : Option (Values × Bool)) → is_some x ≡ is_some x' → is_some r ≡ is_some r'
    → is_some (option_and_then {U = Values × Bool} (λ w. option_map (λ ws. (more w.0 ws.0, w.1 && ws.1)) r) x)
    ≡ is_some (option_and_then {U = Values × Bool} (λ w. option_map (λ ws. (more w.0 ws.0, w.1 && ws.1)) r') x')
some_both None None r r' e f = refl
some_both None (Some x') r r' e f = absurd (true≢false (sym e))
some_both (Some x) None r r' e f = absurd (true≢false e)
some_both (Some x) (Some x') None None e f = refl
some_both (Some x) (Some x') None (Some r') e f = absurd (true≢false (sym f))
some_both (Some x) (Some x') (Some r) None e f = absurd (true≢false f)
some_both (Some x) (Some x') (Some r) (Some r') e f = refl

mutual
  read_shape : (d : Data) → is_some (read d) ≡ is_some (read (shape d))
  read_shape null = refl
  read_shape (boolean b) = refl
  read_shape (D.number (unsigned n)) = some_number (nat_lt n (2 ^ 63)) (pos n)
  read_shape (D.number (negative (pos n))) = refl
  read_shape (D.number (negative (negsuc n))) = some_number (nat_lt n (2 ^ 63)) (negsuc n)
  read_shape (D.number (float x)) = refl
  read_shape (string s) = refl
  read_shape (array no_items) = refl
  read_shape (array (item null ds)) = refl
  read_shape (array (item (boolean b) ds)) = refl
  read_shape (array (item (D.number (unsigned n)) ds)) = refl
  read_shape (array (item (D.number (negative (pos n))) ds)) = refl
  read_shape (array (item (D.number (negative (negsuc n))) ds)) = refl
  read_shape (array (item (D.number (float x)) ds)) = refl
  read_shape (array (item (string s) ds)) =
      some_cond (bytes_eq s (codes "rgba")) (bytes_eq s (codes "list")) (colour_in ds) (colour_in (shapes ds)) (option_map (with_fit list) (read_all ds)) (option_map (with_fit list) (read_all (shapes ds)))
      (colour_shape ds) (some_mapped (with_fit list) (read_all ds) ∙ read_all_shape ds ∙ sym (some_mapped (with_fit list) (read_all (shapes ds))))
  read_shape (array (item (array es) ds)) = refl
  read_shape (array (item (object ms) ds)) = refl
  read_shape (object ms) = refl

  read_all_shape : (ds : Items) → is_some (read_all ds) ≡ is_some (read_all (shapes ds))
  read_all_shape no_items = refl
  read_all_shape (item d ds) = some_both (read d) (read (shape d)) (read_all ds) (read_all (shapes ds)) (read_shape d) (read_all_shape ds)

mutual
  some_json : (v : Value) → is_some (read (json v)) ≡ true
  some_json (number (pos n)) = some_number (nat_lt n (2 ^ 63)) (pos n)
  some_json (number (negsuc n)) = some_number (nat_lt n (2 ^ 63)) (negsuc n)
  some_json (truth b) = refl
  some_json (colour c) =
      some_mapped (with_fit colour) (cond (is_within 0 4294967295 c) (Some (c, true)) (Some (0, false))) ∙ some_either (is_within 0 4294967295 c) (c, true) (0, false)
  some_json (text s) = refl
  some_json (list vs) = some_mapped (with_fit list) (read_all (jsons vs)) ∙ some_jsons vs

  some_jsons : (vs : Values) → is_some (read_all (jsons vs)) ≡ true
  some_jsons no_more = refl
  some_jsons (more v vs) = some_both (read (json v)) (Some (v, true)) (read_all (jsons vs)) (Some (vs, true)) (some_json v) (some_jsons vs)

shaped : (d : Data) (v : Value) → shape (json v) ≡ shape d → is_some (read d) ≡ true
shaped d v same = read_shape d ∙ sym (ap (λ c. is_some (read c)) same) ∙ sym (read_shape (json v)) ∙ some_json v

-- ---- what was read has the shape of the JSON tree

number_same : (b f : Bool) (z : ℤ) (v : Value) → shape (json (number z)) ≡ D.number (unsigned 0)
    → option_map (with_fit number) (cond b (Some (z, true)) (Some (pos 0, false))) ≡ Some (v, f) → shape (json v) ≡ D.number (unsigned 0)
number_same true f z v h e = sym (ap (λ w. shape (json w)) (first e)) ∙ h
number_same false f z v h e = sym (ap (λ w. shape (json w)) (first e))

colour_either : (b f : Bool) (n : ℕ) (v : Value) → option_map (with_fit colour) (cond b (Some (n, true)) (Some (0, false))) ≡ Some (v, f)
    → shape (json v) ≡ array (item (string (codes "rgba")) (item (D.number (unsigned 0)) no_items))
colour_either true f n v e = sym (ap (λ w. shape (json w)) (first e))
colour_either false f n v e = sym (ap (λ w. shape (json w)) (first e))

colour_same : (ds : Items) (v : Value) (f : Bool) → colour_in ds ≡ Some (v, f) → shape (json v) ≡ array (item (string (codes "rgba")) (shapes ds))
colour_same no_items v f e = cc
colour_same (item null no_items) v f e = cc
colour_same (item (boolean b) no_items) v f e = cc
colour_same (item (D.number (unsigned n)) no_items) v f e = colour_either (is_within 0 4294967295 n) f n v e
colour_same (item (D.number (negative (pos n))) no_items) v f e = cc
colour_same (item (D.number (negative (negsuc n))) no_items) v f e = sym (ap (λ w. shape (json w)) (first e))
colour_same (item (D.number (float x)) no_items) v f e = cc
colour_same (item (string s) no_items) v f e = cc
colour_same (item (array es) no_items) v f e = cc
colour_same (item (object ms) no_items) v f e = cc
colour_same (item d (item g ds)) v f e = cc

tagged_same : (b c f : Bool) (s : List ℕ) (ds : Items) (v : Value) (all : Option (Values × Bool))
    → (b ≡ true → s ≡ codes "rgba") → (c ≡ true → s ≡ codes "list")
    → ((vs : Values) (g : Bool) → all ≡ Some (vs, g) → shapes (jsons vs) ≡ shapes ds)
    → cond b (colour_in ds) (cond c (option_map (with_fit list) all) None) ≡ Some (v, f) → shape (json v) ≡ array (item (string s) (shapes ds))
tagged_same true c f s ds v all k g h e = colour_same ds v f e ∙ ap (λ w. array (item (string w) (shapes ds))) (sym (k refl))
tagged_same false true f s ds v None k g h e = cc
tagged_same false true f s ds v (Some r) k g h e =
    sym (ap (λ w. shape (json w)) (first e)) ∙ ap (λ es. array (item (string (codes "list")) es)) (h r.0 r.1 refl) ∙ ap (λ w. array (item (string w) (shapes ds))) (sym (g refl))
tagged_same false false f s ds v all k g h e = cc

more_same : (x : Option (Value × Bool)) (all : Option (Values × Bool)) (d : Data) (ds : Items) (vs : Values) (f : Bool)
    → ((v : Value) (g : Bool) → x ≡ Some (v, g) → shape (json v) ≡ shape d) → ((ws : Values) (g : Bool) → all ≡ Some (ws, g) → shapes (jsons ws) ≡ shapes ds)
    → option_and_then {U = Values × Bool} (λ w. option_map (λ ws. (more w.0 ws.0, w.1 && ws.1)) all) x ≡ Some (vs, f) → shapes (jsons vs) ≡ item (shape d) (shapes ds)
more_same None all d ds vs f h k e = cc
more_same (Some x) None d ds vs f h k e = cc
more_same (Some x) (Some r) d ds vs f h k e = sym (ap (λ w. shapes (jsons w)) (first e)) ∙ (λ i. item (h x.0 x.1 refl i) (k r.0 r.1 refl i))

mutual
  same_shape : (d : Data) (v : Value) (f : Bool) → read d ≡ Some (v, f) → shape (json v) ≡ shape d
  same_shape null v f e = cc
  same_shape (boolean b) v f e = sym (ap (λ w. shape (json w)) (first e))
  same_shape (D.number (unsigned n)) v f e = number_same (nat_lt n (2 ^ 63)) f (pos n) v refl e
  same_shape (D.number (negative (pos n))) v f e = cc
  same_shape (D.number (negative (negsuc n))) v f e = number_same (nat_lt n (2 ^ 63)) f (negsuc n) v refl e
  same_shape (D.number (float x)) v f e = cc
  same_shape (string s) v f e = sym (ap (λ w. shape (json w)) (first e))
  same_shape (array no_items) v f e = cc
  same_shape (array (item null ds)) v f e = cc
  same_shape (array (item (boolean b) ds)) v f e = cc
  same_shape (array (item (D.number n) ds)) v f e = cc
  same_shape (array (item (string s) ds)) v f e =
      tagged_same (bytes_eq s (codes "rgba")) (bytes_eq s (codes "list")) f s ds v (read_all ds) (bytes_eq-Decides s (codes "rgba")).0 (bytes_eq-Decides s (codes "list")).0 (same_shapes ds) e
  same_shape (array (item (array es) ds)) v f e = cc
  same_shape (array (item (object ms) ds)) v f e = cc
  same_shape (object ms) v f e = cc

  same_shapes : (ds : Items) (vs : Values) (f : Bool) → read_all ds ≡ Some (vs, f) → shapes (jsons vs) ≡ shapes ds
  same_shapes no_items vs f e = sym (ap (λ w. shapes (jsons w)) (first e))
  same_shapes (item d ds) vs f e = more_same (read d) (read_all ds) d ds vs f (same_shape d) (same_shapes ds) e

pub value_is : IsCodec value_form
value_is = record {
  back = λ v s e. reads_back v e;
  exact = λ d v e. (read_exact d v e).0;
  in_range = λ d v e. (read_exact d v e).1;
  in_kind = λ d v b e. refl;
  same = same_shape;
  shaped = λ d v s e. shaped d v e;
}

-- what each refusal says, from what was read
pub refusal_means : (d : Data) (f : JsonFault) → Refuses (read d) f → IsJsonFault d f
refusal_means d NotAValue h = no_shape value_form value_is d h
refusal_means d OutOfRange h = out_of_range value_form value_is d h.0 h.1
refusal_means d Memory h = tt

-- what is the JSON tree of a value in range is refused for want of memory alone
pub only_memory : (d : Data) (v : Value) (f : JsonFault) → StandsFor value_form d v → IsJsonFault d f → f ≡ Memory
only_memory d v NotAValue s h = absurd (h (v, s.0, ap shape s.2))
only_memory d v OutOfRange s h = absurd (h.1 v s)
only_memory d v Memory s h = refl
