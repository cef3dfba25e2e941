-- Entries have a form: what is written is read, and nothing else is.
use Rattle.std.proofs.Common.{◌≡◌, ℕ, ◌≤◌, pos, negsuc, List, Bool, true, false, cond, bytes_eq, Option, Some, None, is_some, option_map, codes, refl, ap, sym, ◌∙◌}
use Rattle.std.proofs.lemmas.Slice.Eq.{bytes_eq-Decides}
use Rattle.serde_json.specs.Data as D
use Rattle.serde_json.specs.Data.{Data, unsigned, negative, float, null, boolean, string, array, object, Items}
use Rattle.canvas_model.specs.Change.{Change}
use Rattle.canvas_model.specs.Log.{What, Join, Edit}
use Rattle.canvas_codec.specs.Shape.{shape}
use Rattle.canvas_codec.specs.Codec.{Codec, IsCodec}
use Rattle.canvas_codec.specs.Parts.{with_fit, maybe_test}
use Rattle.canvas_codec.proofs.Forms.{first, second, via_is, end_is, member_is, array_is, some_mapped}
use Rattle.canvas_forms.specs.Version.{Version}
use Rattle.canvas_forms.specs.Changes.{change_form}
use Rattle.canvas_forms.proofs.Forms.{client_is, version_is, change_is, outcome_is}
use Rattle.canvas_forms.specs.Entries.{word_or, word_or_in, word_or_written, what_of, change_in, what_form, entry_form}

word_case : (b : Bool) (f : Bool) {X : Type 0} (x : Option X) → cond {A = Option (Option X × Bool)} b (Some (None, true)) None ≡ Some (x, f) → (b ≡ true) × (None ≡ x) × (true ≡ f)
word_case true f x e = (refl, first e, second e)
word_case false f x e = cc

held : {X : Type 0} (o : Option (X × Bool)) (x : Option X) (b : Bool) → option_map (with_fit Some) o ≡ Some (x, b) → (y : X) × (o ≡ Some (y, b)) × (Some y ≡ x)
held None x b e = cc
held (Some r) x b e = (r.0, ap (λ (f : Bool). Some (r.0, f)) (second e), first e)

module _ {X : Type 0} (w : List ℕ) (c : Codec X) (h : IsCodec c) (apart : (x : X) → (ds : Items) × (c.write x ≡ array ds)) where
  word_back : (x : Option X) → maybe_test c.sound x ≡ true → maybe_test c.fits x ≡ true → word_or_in w c.read (word_or_written w c.write x) ≡ Some (x, true)
  word_back None s e = rw ((bytes_eq-Decides w w).1 refl) refl
  word_back (Some x) s e =
      let a = apart x in
      ap (word_or_in w c.read) a.1 ∙ ap (option_map (with_fit Some)) (sym (ap c.read a.1) ∙ h.back x s e)

  held_exact : (d : Data) (x : Option X) → option_map (with_fit Some) (c.read d) ≡ Some (x, true) → (word_or_written w c.write x ≡ d) × (maybe_test c.fits x ≡ true)
  held_exact d x e =
      let k = held (c.read d) x true e in
      (sym (ap (word_or_written w c.write) k.2) ∙ h.exact d k.0 k.1, sym (ap (maybe_test c.fits) k.2) ∙ h.in_range d k.0 k.1)

  word_exact : (d : Data) (x : Option X) → word_or_in w c.read d ≡ Some (x, true) → (word_or_written w c.write x ≡ d) × (maybe_test c.fits x ≡ true)
  word_exact null x e = held_exact null x e
  word_exact (boolean b) x e = held_exact (boolean b) x e
  word_exact (D.number n) x e = held_exact (D.number n) x e
  word_exact (string s) x e =
      let k = word_case (bytes_eq s w) true x e in
      (sym (ap (word_or_written w c.write) k.1) ∙ ap string (sym ((bytes_eq-Decides s w).0 k.0)), sym (ap (maybe_test c.fits) k.1))
  word_exact (array ds) x e = held_exact (array ds) x e
  word_exact (object ms) x e = held_exact (object ms) x e

  held_same : (d : Data) (x : Option X) (b : Bool) → option_map (with_fit Some) (c.read d) ≡ Some (x, b) → (maybe_test c.sound x ≡ true) × (shape (word_or_written w c.write x) ≡ shape d)
  held_same d x b e =
      let k = held (c.read d) x b e in
      (sym (ap (maybe_test c.sound) k.2) ∙ h.in_kind d k.0 b k.1, sym (ap (λ y. shape (word_or_written w c.write y)) k.2) ∙ h.same d k.0 b k.1)

  word_same : (d : Data) (x : Option X) (b : Bool) → word_or_in w c.read d ≡ Some (x, b) → (maybe_test c.sound x ≡ true) × (shape (word_or_written w c.write x) ≡ shape d)
  word_same null x b e = held_same null x b e
  word_same (boolean t) x b e = held_same (boolean t) x b e
  word_same (D.number n) x b e = held_same (D.number n) x b e
  word_same (string s) x b e =
      let k = word_case (bytes_eq s w) b x e in
      (sym (ap (maybe_test c.sound) k.1), sym (ap (λ y. shape (word_or_written w c.write y)) k.1) ∙ ap string (sym ((bytes_eq-Decides s w).0 k.0)))
  word_same (array ds) x b e = held_same (array ds) x b e
  word_same (object ms) x b e = held_same (object ms) x b e

  word_shape_is : (d : Data) → string w ≡ shape d → is_some (word_or_in w c.read d) ≡ true
  word_shape_is null e = cc
  word_shape_is (boolean b) e = cc
  word_shape_is (D.number (unsigned n)) e = cc
  word_shape_is (D.number (negative (pos n))) e = cc
  word_shape_is (D.number (negative (negsuc n))) e = cc
  word_shape_is (D.number (float f)) e = cc
  word_shape_is (string s) e = let same : w ≡ s = cc in rw ((bytes_eq-Decides s w).1 (sym same)) refl
  word_shape_is (array ds) e = cc
  word_shape_is (object ms) e = cc

  held_shaped : (d : Data) (x : X) → c.sound x ≡ true → shape (c.write x) ≡ shape d → is_some (option_map (with_fit {B = Option X} Some) (c.read d)) ≡ true
  held_shaped d x s e = some_mapped (with_fit Some) (c.read d) ∙ h.shaped d x s e

  no_text : (x : X) (s : List ℕ) → shape (c.write x) ≡ string s → ⊥
  no_text x s e = let a = apart x in let k : shape (array a.0) ≡ string s = sym (ap shape a.1) ∙ e in cc

  thing_shaped : (d : Data) (x : X) → c.sound x ≡ true → shape (c.write x) ≡ shape d → is_some (word_or_in w c.read d) ≡ true
  thing_shaped null x s e = held_shaped null x s e
  thing_shaped (boolean b) x s e = held_shaped (boolean b) x s e
  thing_shaped (D.number n) x s e = held_shaped (D.number n) x s e
  thing_shaped (string t) x s e = absurd (no_text x t e)
  thing_shaped (array ds) x s e = held_shaped (array ds) x s e
  thing_shaped (object ms) x s e = held_shaped (object ms) x s e

  word_shaped : (d : Data) (x : Option X) → maybe_test c.sound x ≡ true → shape (word_or_written w c.write x) ≡ shape d → is_some (word_or_in w c.read d) ≡ true
  word_shaped d None s e = word_shape_is d e
  word_shaped d (Some x) s e = thing_shaped d x s e

  pub word_or_is : IsCodec (word_or w c)
  word_or_is = record {
    back = word_back;
    exact = λ d x e. (word_exact d x e).0;
    in_range = λ d x e. (word_exact d x e).1;
    in_kind = λ d x b e. (word_same d x b e).0;
    same = λ d x b e. (word_same d x b e).1;
    shaped = word_shaped;
  }

what_back : (what : What) → what_of (change_in what) ≡ what
what_back Join = refl
what_back (Edit change) = refl

what_only : (o : Option Change) → change_in (what_of o) ≡ o
what_only None = refl
what_only (Some change) = refl

pub what_is : IsCodec what_form
what_is = via_is shape what_of change_in (word_or (codes "join") change_form) (word_or_is (codes "join") change_form change_is (λ x. (_, refl))) what_back (λ p s. what_only p)

pub entry_is : (v : Version) → v.last_reason ≤ 8 → IsCodec (entry_form v)
entry_is v h = via_is shape _ _ _ (array_is _ (member_is _ _ client_is (member_is _ _ version_is (member_is _ _ what_is (member_is _ _ (outcome_is v h) end_is))))) (λ e. refl) (λ p s. refl)
