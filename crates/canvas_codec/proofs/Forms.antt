-- The laws of the parts that forms are put together from, and what they say of a JSON tree.
use Rattle.std.proofs.Common.{◌≡◌, ℕ, ◌&&◌, ◌⊎◌, inl, inr, pos, negsuc, List, [], ◌∷◌, Bool, true, false, true≢false, cond, bytes_eq, Option, Some, None, is_some, option_map, unwrap_or, refl, ap, sym, ◌∙◌}
use Rattle.std.proofs.lemmas.Slice.Eq.{bytes_eq-Decides}
use Rattle.serde_json.specs.Data as D
use Rattle.serde_json.specs.Data.{Data, unsigned, negative, float, null, boolean, string, array, object, Items, no_items, item}
use Rattle.canvas_codec.specs.Shape.{shape, shapes}
use Rattle.canvas_codec.specs.Codec.{Form, Codec, Members, Worded, HasShape, StandsFor, IsOutOfRange, IsForm, IsCodec, AreMembers, IsWorded, word_shape}
use Rattle.canvas_value.specs.Range.{is_within}
use Rattle.canvas_codec.specs.Parts.{whole, whole_in, text_of, text_in, word, maybe, maybe_in, maybe_written, end, end_in, join, member, member_in, each, each_in, each_written, each_test, array_of, array_in, headed, head_in, after, choice, with_fit, via}
use Rattle.canvas_value.proofs.Tests.{both_hold, both_true}

pub first : {A B : Type 0} {a b : A} {x y : B} → ◌≡◌ {A = Option (A × B)} (Some (a, x)) (Some (b, y)) → a ≡ b
first {A} {B} {a} e = ap (λ o. unwrap_or (option_map (λ (p : A × B). p.0) o) a) e

pub second : {A B : Type 0} {a b : A} {x y : B} → ◌≡◌ {A = Option (A × B)} (Some (a, x)) (Some (b, y)) → x ≡ y
second {A} {B} {a} {b} {x} e = ap (λ o. unwrap_or (option_map (λ (p : A × B). p.1) o) x) e

-- ---- what a reading says of the JSON tree

module _ {X : Type 0} (c : Codec X) (h : IsCodec c) where
  pub stands_for : (d : Data) (x : X) → c.read d ≡ Some (x, true) → StandsFor c d x
  stands_for d x e = (h.in_kind d x true e, h.in_range d x e, h.exact d x e)

  pub reads_what_stands : (d : Data) (x : X) → StandsFor c d x → c.read d ≡ Some (x, true)
  reads_what_stands d x s = sym (ap c.read s.2) ∙ h.back x s.0 s.1

  pub out_of_range : (d : Data) (x : X) → c.read d ≡ Some (x, false) → IsOutOfRange c d
  out_of_range d x e = ((x, h.in_kind d x false e, h.same d x false e), λ y s. true≢false (second (sym (reads_what_stands d y s) ∙ e)))

  pub no_shape : (d : Data) → c.read d ≡ None → HasShape c d → ⊥
  no_shape d e s = true≢false (sym (h.shaped d s.0 s.1 s.2) ∙ ap is_some e)

-- ---- whole numbers

whole_back : (b : Bool) (n : ℕ) → b ≡ true → cond {A = Option (ℕ × Bool)} b (Some (n, true)) (Some (0, false)) ≡ Some (n, true)
whole_back true n e = refl
whole_back false n e = absurd (true≢false (sym e))

whole_case : (b : Bool) (n m : ℕ) → cond {A = Option (ℕ × Bool)} b (Some (n, true)) (Some (0, false)) ≡ Some (m, true) → (b ≡ true) × (n ≡ m)
whole_case true n m e = (refl, first e)
whole_case false n m e = absurd (true≢false (sym (second e)))

pub whole_some : (b : Bool) (n : ℕ) → is_some (cond {A = Option (ℕ × Bool)} b (Some (n, true)) (Some (0, false))) ≡ true
whole_some true n = refl
whole_some false n = refl

module _ (low high : ℕ) where
  whole_exact : (d : Data) (x : ℕ) → whole_in low high d ≡ Some (x, true) → (D.number (unsigned x) ≡ d) × (is_within low high x ≡ true)
  whole_exact null x e = cc
  whole_exact (boolean b) x e = cc
  whole_exact (D.number (unsigned n)) x e =
      let h = whole_case (is_within low high n) n x e in
      (ap (λ k. D.number (unsigned k)) (sym h.1), sym (ap (is_within low high) h.1) ∙ h.0)
  whole_exact (D.number (negative (pos n))) x e = cc
  whole_exact (D.number (negative (negsuc n))) x e = absurd (true≢false (sym (second e)))
  whole_exact (D.number (float f)) x e = cc
  whole_exact (string s) x e = cc
  whole_exact (array ds) x e = cc
  whole_exact (object ms) x e = cc

  whole_same : (d : Data) (x : ℕ) (b : Bool) → whole_in low high d ≡ Some (x, b) → D.number (unsigned 0) ≡ shape d
  whole_same null x b e = cc
  whole_same (boolean c) x b e = cc
  whole_same (D.number (unsigned n)) x b e = refl
  whole_same (D.number (negative (pos n))) x b e = cc
  whole_same (D.number (negative (negsuc n))) x b e = refl
  whole_same (D.number (float f)) x b e = cc
  whole_same (string s) x b e = cc
  whole_same (array ds) x b e = cc
  whole_same (object ms) x b e = cc

  whole_shaped : (d : Data) (x : ℕ) → D.number (unsigned 0) ≡ shape d → is_some (whole_in low high d) ≡ true
  whole_shaped null x e = cc
  whole_shaped (boolean c) x e = cc
  whole_shaped (D.number (unsigned n)) x e = whole_some (is_within low high n) n
  whole_shaped (D.number (negative (pos n))) x e = cc
  whole_shaped (D.number (negative (negsuc n))) x e = refl
  whole_shaped (D.number (float f)) x e = cc
  whole_shaped (string s) x e = cc
  whole_shaped (array ds) x e = cc
  whole_shaped (object ms) x e = cc

  pub whole_is : IsCodec (whole low high)
  whole_is = record {
    back = λ n s e. whole_back (is_within low high n) n e;
    exact = λ d x e. (whole_exact d x e).0;
    in_range = λ d x e. (whole_exact d x e).1;
    in_kind = λ d x b e. refl;
    same = whole_same;
    shaped = λ d x s e. whole_shaped d x e;
  }

-- ---- texts

text_back : (b : Bool) (s : List ℕ) → b ≡ true → cond {A = Option (List ℕ × Bool)} b (Some (s, true)) None ≡ Some (s, true)
text_back true s e = refl
text_back false s e = absurd (true≢false (sym e))

text_case : (b f : Bool) (s t : List ℕ) → cond {A = Option (List ℕ × Bool)} b (Some (s, true)) None ≡ Some (t, f) → (b ≡ true) × (s ≡ t)
text_case true f s t e = (refl, first e)
text_case false f s t e = cc

module _ (test : List ℕ → Bool) where
  text_exact : (d : Data) (s : List ℕ) (f : Bool) → text_in test d ≡ Some (s, f) → (string s ≡ d) × (test s ≡ true)
  text_exact null s f e = cc
  text_exact (boolean b) s f e = cc
  text_exact (D.number n) s f e = cc
  text_exact (string t) s f e = let h = text_case (test t) f t s e in (ap string (sym h.1), sym (ap test h.1) ∙ h.0)
  text_exact (array ds) s f e = cc
  text_exact (object ms) s f e = cc

  text_shaped : (d : Data) (s : List ℕ) → test s ≡ true → string s ≡ shape d → is_some (text_in test d) ≡ true
  text_shaped null s h e = cc
  text_shaped (boolean b) s h e = cc
  text_shaped (D.number (unsigned n)) s h e = cc
  text_shaped (D.number (negative (pos n))) s h e = cc
  text_shaped (D.number (negative (negsuc n))) s h e = cc
  text_shaped (D.number (float f)) s h e = cc
  text_shaped (string t) s h e = let same : s ≡ t = cc in ap is_some (text_back (test t) t (sym (ap test same) ∙ h))
  text_shaped (array ds) s h e = cc
  text_shaped (object ms) s h e = cc

  pub text_is : IsCodec (text_of test)
  text_is = record {
    back = λ s h e. text_back (test s) s h;
    exact = λ d s e. (text_exact d s true e).0;
    in_range = λ d s e. refl;
    in_kind = λ d s f e. (text_exact d s f e).1;
    same = λ d s f e. ap shape (text_exact d s f e).0;
    shaped = text_shaped;
  }

-- ---- things of another type

was_mapped : {X Y : Type 0} (to : X → Y) (o : Option (X × Bool)) (y : Y) (b : Bool) → option_map (with_fit to) o ≡ Some (y, b) → (x : X) × (o ≡ Some (x, b)) × (to x ≡ y)
was_mapped to None y b e = cc
was_mapped to (Some r) y b e = (r.0, ap (λ (f : Bool). Some (r.0, f)) (second e), first e)

pub some_mapped : {X Y : Type 0} (f : X → Y) (o : Option X) → is_some (option_map f o) ≡ is_some o
some_mapped f None = refl
some_mapped f (Some x) = refl

module _ {D X Y : Type 0} (form : D → D) (to : X → Y) (from : Y → X) (f : Form D X) (h : IsForm form f) (one : (y : Y) → to (from y) ≡ y) (other : (x : X) → f.sound x ≡ true → from (to x) ≡ x) where
  came_from : (d : D) (y : Y) (b : Bool) → option_map (with_fit to) (f.read d) ≡ Some (y, b) → f.read d ≡ Some (from y, b)
  came_from d y b e =
      let w = was_mapped to (f.read d) y b e in
      w.1 ∙ ap (λ (x : X). Some (x, b)) (sym (other w.0 (h.in_kind d w.0 b w.1)) ∙ ap from w.2)

  pub via_is : IsForm form (via to from f)
  via_is = record {
    back = λ y s e. ap (option_map (with_fit to)) (h.back (from y) s e) ∙ ap (λ (z : Y). Some (z, true)) (one y);
    exact = λ d y e. h.exact d (from y) (came_from d y true e);
    in_range = λ d y e. h.in_range d (from y) (came_from d y true e);
    in_kind = λ d y b e. h.in_kind d (from y) b (came_from d y b e);
    same = λ d y b e. h.same d (from y) b (came_from d y b e);
    shaped = λ d y s e. some_mapped (with_fit to) (f.read d) ∙ h.shaped d (from y) s e;
  }

pub word_is : (w : List ℕ) → IsCodec (word w)
word_is w = via_is shape _ _ _ (text_is (λ s. bytes_eq s w)) (λ u. refl) (λ s e. sym ((bytes_eq-Decides s w).0 e))

-- ---- null, or something else

module _ {X : Type 0} (c : Codec X) (h : IsCodec c) (apart : (x : X) → c.write x ≡ null → ⊥) where
  maybe_other : (d : Data) → (d ≡ null → ⊥) → maybe_in c.read d ≡ option_map (with_fit Some) (c.read d)
  maybe_other null k = absurd (k refl)
  maybe_other (boolean b) k = refl
  maybe_other (D.number n) k = refl
  maybe_other (string s) k = refl
  maybe_other (array ds) k = refl
  maybe_other (object ms) k = refl

  maybe_back : (x : Option X) → (maybe c).sound x ≡ true → (maybe c).fits x ≡ true → maybe_in c.read (maybe_written c.write x) ≡ Some (x, true)
  maybe_back None s e = refl
  maybe_back (Some x) s e = maybe_other (c.write x) (apart x) ∙ ap (option_map (with_fit Some)) (h.back x s e)

  -- what isn't null is read by the form within
  held_exact : (d : Data) (x : Option X) → option_map (with_fit Some) (c.read d) ≡ Some (x, true) → (maybe_written c.write x ≡ d) × ((maybe c).fits x ≡ true)
  held_exact d x e =
      let w = was_mapped Some (c.read d) x true e in
      (sym (ap (maybe_written c.write) w.2) ∙ h.exact d w.0 w.1, sym (ap (maybe c).fits w.2) ∙ h.in_range d w.0 w.1)

  held_same : (d : Data) (x : Option X) (b : Bool) → option_map (with_fit Some) (c.read d) ≡ Some (x, b) → ((maybe c).sound x ≡ true) × (shape (maybe_written c.write x) ≡ shape d)
  held_same d x b e =
      let w = was_mapped Some (c.read d) x b e in
      (sym (ap (maybe c).sound w.2) ∙ h.in_kind d w.0 b w.1, sym (ap (λ y. shape (maybe_written c.write y)) w.2) ∙ h.same d w.0 b w.1)

  maybe_exact : (d : Data) (x : Option X) → maybe_in c.read d ≡ Some (x, true) → (maybe_written c.write x ≡ d) × ((maybe c).fits x ≡ true)
  maybe_exact null x e = (sym (ap (maybe_written c.write) (first e)), sym (ap (maybe c).fits (first e)))
  maybe_exact (boolean b) x e = held_exact (boolean b) x e
  maybe_exact (D.number n) x e = held_exact (D.number n) x e
  maybe_exact (string s) x e = held_exact (string s) x e
  maybe_exact (array ds) x e = held_exact (array ds) x e
  maybe_exact (object ms) x e = held_exact (object ms) x e

  maybe_same : (d : Data) (x : Option X) (b : Bool) → maybe_in c.read d ≡ Some (x, b) → ((maybe c).sound x ≡ true) × (shape (maybe_written c.write x) ≡ shape d)
  maybe_same null x b e = (sym (ap (maybe c).sound (first e)), sym (ap (λ y. shape (maybe_written c.write y)) (first e)))
  maybe_same (boolean t) x b e = held_same (boolean t) x b e
  maybe_same (D.number n) x b e = held_same (D.number n) x b e
  maybe_same (string s) x b e = held_same (string s) x b e
  maybe_same (array ds) x b e = held_same (array ds) x b e
  maybe_same (object ms) x b e = held_same (object ms) x b e

  null_shape : (d : Data) → null ≡ shape d → is_some (maybe_in c.read d) ≡ true
  null_shape null e = refl
  null_shape (boolean b) e = cc
  null_shape (D.number (unsigned n)) e = cc
  null_shape (D.number (negative (pos n))) e = cc
  null_shape (D.number (negative (negsuc n))) e = cc
  null_shape (D.number (float f)) e = cc
  null_shape (string s) e = cc
  null_shape (array ds) e = cc
  null_shape (object ms) e = cc

  held_shaped : (d : Data) (x : X) → c.sound x ≡ true → shape (c.write x) ≡ shape d → is_some (option_map (with_fit {B = Option X} Some) (c.read d)) ≡ true
  held_shaped d x s e = some_mapped (with_fit Some) (c.read d) ∙ h.shaped d x s e

  some_shape : (d : Data) (x : X) → c.sound x ≡ true → shape (c.write x) ≡ shape d → is_some (maybe_in c.read d) ≡ true
  some_shape null x s e = refl
  some_shape (boolean b) x s e = held_shaped (boolean b) x s e
  some_shape (D.number n) x s e = held_shaped (D.number n) x s e
  some_shape (string t) x s e = held_shaped (string t) x s e
  some_shape (array ds) x s e = held_shaped (array ds) x s e
  some_shape (object ms) x s e = held_shaped (object ms) x s e

  maybe_shaped : (d : Data) (x : Option X) → (maybe c).sound x ≡ true → shape (maybe_written c.write x) ≡ shape d → is_some (maybe_in c.read d) ≡ true
  maybe_shaped d None s e = null_shape d e
  maybe_shaped d (Some x) s e = some_shape d x s e

  pub maybe_is : IsCodec (maybe c)
  maybe_is = record {
    back = maybe_back;
    exact = λ d x e. (maybe_exact d x e).0;
    in_range = λ d x e. (maybe_exact d x e).1;
    in_kind = λ d x b e. (maybe_same d x b e).0;
    same = λ d x b e. (maybe_same d x b e).1;
    shaped = maybe_shaped;
  }

-- ---- the members of an array

end_exact : (ds : Items) (x : Unit {0}) (b : Bool) → end_in ds ≡ Some (x, b) → no_items ≡ ds
end_exact no_items x b e = refl
end_exact (item d ds) x b e = cc

end_shaped : (ds : Items) (x : Unit {0}) → no_items ≡ shapes ds → is_some (end_in ds) ≡ true
end_shaped no_items x e = refl
end_shaped (item d ds) x e = cc

pub end_is : AreMembers end
end_is = record {
  back = λ x s e. refl;
  exact = λ ds x e. end_exact ds x true e;
  in_range = λ ds x e. refl;
  in_kind = λ ds x b e. refl;
  same = λ ds x b e. ap shapes (end_exact ds x b e);
  shaped = λ ds x s e. end_shaped ds x e;
}

module _ {X Y : Type 0} where
  join_was : (o : Option (X × Bool)) (s : Option (Y × Bool)) (x : X × Y) (b : Bool) → join o s ≡ Some (x, b)
      → (a : Bool) × (f : Bool) × (o ≡ Some (x.0, a)) × (s ≡ Some (x.1, f)) × ((a && f) ≡ b)
  join_was None s x b e = cc
  join_was (Some p) None x b e = cc
  join_was (Some p) (Some q) x b e =
      (p.1, q.1, ap (λ (z : X × Y). Some (z.0, p.1)) (first e), ap (λ (z : X × Y). Some (z.1, q.1)) (first e), second e)

  join_some : (o : Option (X × Bool)) (s : Option (Y × Bool)) → is_some o ≡ true → is_some s ≡ true → is_some (join o s) ≡ true
  join_some None s e f = absurd (true≢false (sym e))
  join_some (Some p) None e f = absurd (true≢false (sym f))
  join_some (Some p) (Some q) e f = refl

module _ {X Y : Type 0} (c : Codec X) (r : Members Y) (hc : IsCodec c) (hr : AreMembers r) where
  -- both parts of a pair that was read in range
  pair_was : (d : Data) (ds : Items) (x : X × Y) → join (c.read d) (r.read ds) ≡ Some (x, true) → (c.read d ≡ Some (x.0, true)) × (r.read ds ≡ Some (x.1, true))
  pair_was d ds x e =
      let w = join_was (c.read d) (r.read ds) x true e in
      let f = both_hold w.0 w.1 w.4 in
      (w.2 ∙ ap (λ (b : Bool). Some (x.0, b)) f.0, w.3 ∙ ap (λ (b : Bool). Some (x.1, b)) f.1)

  pair_exact : (d : Data) (ds : Items) (x : X × Y) → join (c.read d) (r.read ds) ≡ Some (x, true)
      → (item (c.write x.0) (r.write x.1) ≡ item d ds) × ((c.fits x.0 && r.fits x.1) ≡ true)
  pair_exact d ds x e =
      let w = pair_was d ds x e in
      (λ i. item (hc.exact d x.0 w.0 i) (hr.exact ds x.1 w.1 i), both_true (c.fits x.0) (r.fits x.1) (hc.in_range d x.0 w.0) (hr.in_range ds x.1 w.1))

  pair_same : (d : Data) (ds : Items) (x : X × Y) (b : Bool) → join (c.read d) (r.read ds) ≡ Some (x, b)
      → ((c.sound x.0 && r.sound x.1) ≡ true) × (item (shape (c.write x.0)) (shapes (r.write x.1)) ≡ item (shape d) (shapes ds))
  pair_same d ds x b e =
      let w = join_was (c.read d) (r.read ds) x b e in (
        both_true (c.sound x.0) (r.sound x.1) (hc.in_kind d x.0 w.0 w.2) (hr.in_kind ds x.1 w.1 w.3),
        λ i. item (hc.same d x.0 w.0 w.2 i) (hr.same ds x.1 w.1 w.3 i),
      )

  pair_shaped : (d : Data) (ds : Items) (x : X) (y : Y) → (c.sound x && r.sound y) ≡ true → item (shape (c.write x)) (shapes (r.write y)) ≡ item (shape d) (shapes ds)
      → is_some (join (c.read d) (r.read ds)) ≡ true
  pair_shaped d ds x y s e =
      let k = both_hold (c.sound x) (r.sound y) s in
      join_some (c.read d) (r.read ds) (hc.shaped d x k.0 (cc)) (hr.shaped ds y k.1 (cc))

  member_back : (x : X × Y) → (c.sound x.0 && r.sound x.1) ≡ true → (c.fits x.0 && r.fits x.1) ≡ true → join (c.read (c.write x.0)) (r.read (r.write x.1)) ≡ Some (x, true)
  member_back x s e =
      let k = both_hold (c.sound x.0) (r.sound x.1) s in
      let f = both_hold (c.fits x.0) (r.fits x.1) e in
      rw (hc.back x.0 k.0 f.0, hr.back x.1 k.1 f.1) refl

  member_exact : (ds : Items) (x : X × Y) → member_in c.read r.read ds ≡ Some (x, true) → (item (c.write x.0) (r.write x.1) ≡ ds) × ((c.fits x.0 && r.fits x.1) ≡ true)
  member_exact no_items x e = cc
  member_exact (item d ds) x e = pair_exact d ds x e

  member_same : (ds : Items) (x : X × Y) (b : Bool) → member_in c.read r.read ds ≡ Some (x, b)
      → ((c.sound x.0 && r.sound x.1) ≡ true) × (item (shape (c.write x.0)) (shapes (r.write x.1)) ≡ shapes ds)
  member_same no_items x b e = cc
  member_same (item d ds) x b e = pair_same d ds x b e

  member_shaped : (ds : Items) (x : X × Y) → (c.sound x.0 && r.sound x.1) ≡ true → item (shape (c.write x.0)) (shapes (r.write x.1)) ≡ shapes ds → is_some (member_in c.read r.read ds) ≡ true
  member_shaped no_items x s e = cc
  member_shaped (item d ds) x s e = pair_shaped d ds x.0 x.1 s e

  pub member_is : AreMembers (member c r)
  member_is = record {
    back = member_back;
    exact = λ ds x e. (member_exact ds x e).0;
    in_range = λ ds x e. (member_exact ds x e).1;
    in_kind = λ ds x b e. (member_same ds x b e).0;
    same = λ ds x b e. (member_same ds x b e).1;
    shaped = member_shaped;
  }

module _ {X : Type 0} (c : Codec X) (h : IsCodec c) where
  each_back : (xs : List X) → each_test c.sound xs ≡ true → each_test c.fits xs ≡ true → each_in c.read (each_written c.write xs) ≡ Some (xs, true)
  each_back [] s e = refl
  each_back (x ∷ xs) s e =
      let k = both_hold (c.sound x) (each_test c.sound xs) s in
      let f = both_hold (c.fits x) (each_test c.fits xs) e in
      rw (h.back x k.0 f.0, each_back xs k.1 f.1) refl

  -- the parts of a list that was read
  cons_was : (o : Option (X × Bool)) (s : Option (List X × Bool)) (xs : List X) (b : Bool) → option_map (with_fit (λ p. p.0 ∷ p.1)) (join o s) ≡ Some (xs, b)
      → (x : X) × (ys : List X) × (a : Bool) × (f : Bool) × (o ≡ Some (x, a)) × (s ≡ Some (ys, f)) × (x ∷ ys ≡ xs) × ((a && f) ≡ b)
  cons_was None s xs b e = cc
  cons_was (Some p) None xs b e = cc
  cons_was (Some p) (Some q) xs b e = (p.0, q.0, p.1, q.1, refl, refl, first e, second e)

  each_exact : (ds : Items) (xs : List X) → each_in c.read ds ≡ Some (xs, true) → (each_written c.write xs ≡ ds) × (each_test c.fits xs ≡ true)
  each_exact no_items xs e = (sym (ap (each_written c.write) (first e)), sym (ap (each_test c.fits) (first e)))
  each_exact (item d ds) xs e =
      let w = cons_was (c.read d) (each_in c.read ds) xs true e in
      let f = both_hold w.2 w.3 w.7 in
      let one : c.read d ≡ Some (w.0, true) = w.4 ∙ ap (λ (b : Bool). Some (w.0, b)) f.0 in
      let rest = each_exact ds w.1 (w.5 ∙ ap (λ (b : Bool). Some (w.1, b)) f.1) in (
        sym (ap (each_written c.write) w.6) ∙ (λ i. item (h.exact d w.0 one i) (rest.0 i)),
        sym (ap (each_test c.fits) w.6) ∙ both_true (c.fits w.0) (each_test c.fits w.1) (h.in_range d w.0 one) rest.1,
      )

  each_same : (ds : Items) (xs : List X) (b : Bool) → each_in c.read ds ≡ Some (xs, b) → (each_test c.sound xs ≡ true) × (shapes (each_written c.write xs) ≡ shapes ds)
  each_same no_items xs b e = (sym (ap (each_test c.sound) (first e)), sym (ap (λ ys. shapes (each_written c.write ys)) (first e)))
  each_same (item d ds) xs b e =
      let w = cons_was (c.read d) (each_in c.read ds) xs b e in
      let rest = each_same ds w.1 w.3 w.5 in (
        sym (ap (each_test c.sound) w.6) ∙ both_true (c.sound w.0) (each_test c.sound w.1) (h.in_kind d w.0 w.2 w.4) rest.0,
        sym (ap (λ ys. shapes (each_written c.write ys)) w.6) ∙ (λ i. item (h.same d w.0 w.2 w.4 i) (rest.1 i)),
      )

  each_shaped : (ds : Items) (xs : List X) → each_test c.sound xs ≡ true → shapes (each_written c.write xs) ≡ shapes ds → is_some (each_in c.read ds) ≡ true
  each_shaped no_items xs s e = refl
  each_shaped (item d ds) [] s e = cc
  each_shaped (item d ds) (x ∷ xs) s e =
      let k = both_hold (c.sound x) (each_test c.sound xs) s in
      some_mapped (with_fit (λ p. p.0 ∷ p.1)) (join (c.read d) (each_in c.read ds))
      ∙ join_some (c.read d) (each_in c.read ds) (h.shaped d x k.0 (cc)) (each_shaped ds xs k.1 (cc))

  pub each_is : AreMembers (each c)
  each_is = record {
    back = each_back;
    exact = λ ds xs e. (each_exact ds xs e).0;
    in_range = λ ds xs e. (each_exact ds xs e).1;
    in_kind = λ ds xs b e. (each_same ds xs b e).0;
    same = λ ds xs b e. (each_same ds xs b e).1;
    shaped = each_shaped;
  }

-- ---- arrays

module _ {X : Type 0} (r : Members X) (h : AreMembers r) where
  array_exact : (d : Data) (x : X) → array_in r.read d ≡ Some (x, true) → (array (r.write x) ≡ d) × (r.fits x ≡ true)
  array_exact null x e = cc
  array_exact (boolean b) x e = cc
  array_exact (D.number n) x e = cc
  array_exact (string s) x e = cc
  array_exact (array ds) x e = (ap array (h.exact ds x e), h.in_range ds x e)
  array_exact (object ms) x e = cc

  array_same : (d : Data) (x : X) (b : Bool) → array_in r.read d ≡ Some (x, b) → (r.sound x ≡ true) × (array (shapes (r.write x)) ≡ shape d)
  array_same null x b e = cc
  array_same (boolean c) x b e = cc
  array_same (D.number n) x b e = cc
  array_same (string s) x b e = cc
  array_same (array ds) x b e = (h.in_kind ds x b e, ap array (h.same ds x b e))
  array_same (object ms) x b e = cc

  array_shaped : (d : Data) (x : X) → r.sound x ≡ true → array (shapes (r.write x)) ≡ shape d → is_some (array_in r.read d) ≡ true
  array_shaped null x s e = cc
  array_shaped (boolean c) x s e = cc
  array_shaped (D.number (unsigned n)) x s e = cc
  array_shaped (D.number (negative (pos n))) x s e = cc
  array_shaped (D.number (negative (negsuc n))) x s e = cc
  array_shaped (D.number (float n)) x s e = cc
  array_shaped (string t) x s e = cc
  array_shaped (array ds) x s e = h.shaped ds x s (cc)
  array_shaped (object ms) x s e = cc

  pub array_is : IsCodec (array_of r)
  array_is = record {
    back = h.back;
    exact = λ d x e. (array_exact d x e).0;
    in_range = λ d x e. (array_exact d x e).1;
    in_kind = λ d x b e. (array_same d x b e).0;
    same = λ d x b e. (array_same d x b e).1;
    shaped = array_shaped;
  }

-- ---- arrays that begin with a word

bytes_eq-refl : (w : List ℕ) → bytes_eq w w ≡ true
bytes_eq-refl w = (bytes_eq-Decides w w).1 refl

module _ {X : Type 0} (w : Worded X) (h : IsWorded w) where
  head_exact : (ds : Items) (x : X) → head_in w.read ds ≡ Some (x, true) → (item (string (w.write x).0) (w.write x).1 ≡ ds) × (w.fits x ≡ true)
  head_exact no_items x e = cc
  head_exact (item null ds) x e = cc
  head_exact (item (boolean b) ds) x e = cc
  head_exact (item (D.number n) ds) x e = cc
  head_exact (item (string s) ds) x e = (ap (λ p. item (string p.0) p.1) (h.exact (s, ds) x e), h.in_range (s, ds) x e)
  head_exact (item (array es) ds) x e = cc
  head_exact (item (object ms) ds) x e = cc

  head_same : (ds : Items) (x : X) (b : Bool) → head_in w.read ds ≡ Some (x, b) → (w.sound x ≡ true) × (item (string (w.write x).0) (shapes (w.write x).1) ≡ shapes ds)
  head_same no_items x b e = cc
  head_same (item null ds) x b e = cc
  head_same (item (boolean c) ds) x b e = cc
  head_same (item (D.number n) ds) x b e = cc
  head_same (item (string s) ds) x b e = (h.in_kind (s, ds) x b e, ap (λ p. item (string p.0) p.1) (h.same (s, ds) x b e))
  head_same (item (array es) ds) x b e = cc
  head_same (item (object ms) ds) x b e = cc

  head_shaped : (ds : Items) (x : X) → w.sound x ≡ true → item (string (w.write x).0) (shapes (w.write x).1) ≡ shapes ds → is_some (head_in w.read ds) ≡ true
  head_shaped no_items x k e = cc
  head_shaped (item null ds) x k e = cc
  head_shaped (item (boolean b) ds) x k e = cc
  head_shaped (item (D.number (unsigned n)) ds) x k e = cc
  head_shaped (item (D.number (negative (pos n))) ds) x k e = cc
  head_shaped (item (D.number (negative (negsuc n))) ds) x k e = cc
  head_shaped (item (D.number (float n)) ds) x k e = cc
  head_shaped (item (string s) ds) x k e =
      let word : (w.write x).0 ≡ s = cc in
      let rest : shapes (w.write x).1 ≡ shapes ds = cc in
      h.shaped (s, ds) x k (λ i. (word i, rest i))
  head_shaped (item (array es) ds) x k e = cc
  head_shaped (item (object ms) ds) x k e = cc

  pub headed_is : AreMembers (headed w)
  headed_is = record {
    back = h.back;
    exact = λ ds x e. (head_exact ds x e).0;
    in_range = λ ds x e. (head_exact ds x e).1;
    in_kind = λ ds x b e. (head_same ds x b e).0;
    same = λ ds x b e. (head_same ds x b e).1;
    shaped = head_shaped;
  }

if_read : {Z : Type 0} (b : Bool) (o : Option Z) (z : Z) → cond b o None ≡ Some z → (b ≡ true) × (o ≡ Some z)
if_read true o z e = (refl, e)
if_read false o z e = cc

module _ {X : Type 0} (v : List ℕ) (r : Members X) (h : AreMembers r) where
  after_was : (p : List ℕ × Items) (x : X) (b : Bool) → (after v r).read p ≡ Some (x, b) → (v ≡ p.0) × (r.read p.1 ≡ Some (x, b))
  after_was p x b e = let k = if_read (bytes_eq p.0 v) (r.read p.1) (x, b) e in (sym ((bytes_eq-Decides p.0 v).0 k.0), k.1)

  pub after_is : IsWorded (after v r)
  after_is = record {
    back = λ x s e. rw (bytes_eq-refl v) (h.back x s e);
    exact = λ p x e. let k = after_was p x true e in λ i. (k.0 i, h.exact p.1 x k.1 i);
    in_range = λ p x e. h.in_range p.1 x (after_was p x true e).1;
    in_kind = λ p x b e. h.in_kind p.1 x b (after_was p x b e).1;
    same = λ p x b e. let k = after_was p x b e in λ i. (k.0 i, h.same p.1 x b k.1 i);
    shaped = λ p x s e.
        let word : v ≡ p.0 = ap (λ q. q.0) e in
        rw (sym (ap (λ u. bytes_eq u v) word) ∙ bytes_eq-refl v) (h.shaped p.1 x s (ap (λ q. q.1) e));
  }

module _ {X Y : Type 0} where
  left_was : (b : Bool) (o : Option (X × Bool)) (s : Option (Y × Bool)) (x : X) (f : Bool)
      → cond {A = Option ((X ⊎ Y) × Bool)} b (option_map (with_fit inl) o) (option_map (with_fit inr) s) ≡ Some (inl x, f) → (b ≡ true) × (o ≡ Some (x, f))
  left_was true None s x f e = cc
  left_was true (Some r) s x f e = let same : ◌≡◌ {A = X ⊎ Y} (inl r.0) (inl x) = first e in (refl, (λ i. Some ((let k : r.0 ≡ x = cc in k) i, second e i)))
  left_was false o None x f e = cc
  left_was false o (Some r) x f e = let same : ◌≡◌ {A = X ⊎ Y} (inr r.0) (inl x) = first e in cc

  right_was : (b : Bool) (o : Option (X × Bool)) (s : Option (Y × Bool)) (y : Y) (f : Bool)
      → cond {A = Option ((X ⊎ Y) × Bool)} b (option_map (with_fit inl) o) (option_map (with_fit inr) s) ≡ Some (inr y, f) → s ≡ Some (y, f)
  right_was true None s y f e = cc
  right_was true (Some r) s y f e = let same : ◌≡◌ {A = X ⊎ Y} (inl r.0) (inr y) = first e in cc
  right_was false o None y f e = cc
  right_was false o (Some r) y f e = let same : ◌≡◌ {A = X ⊎ Y} (inr r.0) (inr y) = first e in (λ i. Some ((let k : r.0 ≡ y = cc in k) i, second e i))

  left_some : (o : Option (X × Bool)) (s : Option (Y × Bool)) → is_some o ≡ true → is_some (cond {A = Option ((X ⊎ Y) × Bool)} true (option_map (with_fit inl) o) (option_map (with_fit inr) s)) ≡ true
  left_some None s e = e
  left_some (Some r) s e = refl

  right_some : (o : Option (X × Bool)) (s : Option (Y × Bool)) → is_some s ≡ true → is_some (cond {A = Option ((X ⊎ Y) × Bool)} false (option_map (with_fit inl) o) (option_map (with_fit inr) s)) ≡ true
  right_some o None e = e
  right_some o (Some r) e = refl

-- the others begin with no such word
module _ {X Y : Type 0} (v : List ℕ) (r : Members X) (w : Worded Y) (hr : AreMembers r) (hw : IsWorded w) (apart : (y : Y) → bytes_eq (w.write y).0 v ≡ false) where
  left : (p : List ℕ × Items) (x : X) (f : Bool) → (choice v r w).read p ≡ Some (inl x, f) → (v ≡ p.0) × (r.read p.1 ≡ Some (x, f))
  left p x f e = let k = left_was (bytes_eq p.0 v) (r.read p.1) (w.read p) x f e in (sym ((bytes_eq-Decides p.0 v).0 k.0), k.1)

  right : (p : List ℕ × Items) (y : Y) (f : Bool) → (choice v r w).read p ≡ Some (inr y, f) → w.read p ≡ Some (y, f)
  right p y f e = right_was (bytes_eq p.0 v) (r.read p.1) (w.read p) y f e

  choice_back : (z : X ⊎ Y) → (choice v r w).sound z ≡ true → (choice v r w).fits z ≡ true → (choice v r w).read ((choice v r w).write z) ≡ Some (z, true)
  choice_back (inl x) s e = rw (bytes_eq-refl v, hr.back x s e) refl
  choice_back (inr y) s e = rw (apart y, hw.back y s e) refl

  choice_exact : (p : List ℕ × Items) (z : X ⊎ Y) → (choice v r w).read p ≡ Some (z, true) → ((choice v r w).write z ≡ p) × ((choice v r w).fits z ≡ true)
  choice_exact p (inl x) e = let k = left p x true e in ((λ i. (k.0 i, hr.exact p.1 x k.1 i)), hr.in_range p.1 x k.1)
  choice_exact p (inr y) e = let k = right p y true e in (hw.exact p y k, hw.in_range p y k)

  choice_same : (p : List ℕ × Items) (z : X ⊎ Y) (f : Bool) → (choice v r w).read p ≡ Some (z, f) → ((choice v r w).sound z ≡ true) × (word_shape ((choice v r w).write z) ≡ word_shape p)
  choice_same p (inl x) f e = let k = left p x f e in (hr.in_kind p.1 x f k.1, (λ i. (k.0 i, hr.same p.1 x f k.1 i)))
  choice_same p (inr y) f e = let k = right p y f e in (hw.in_kind p y f k, hw.same p y f k)

  choice_shaped : (p : List ℕ × Items) (z : X ⊎ Y) → (choice v r w).sound z ≡ true → word_shape ((choice v r w).write z) ≡ word_shape p → is_some ((choice v r w).read p) ≡ true
  choice_shaped p (inl x) s e =
      let word : v ≡ p.0 = ap (λ q. q.0) e in
      rw (sym (ap (λ u. bytes_eq u v) word) ∙ bytes_eq-refl v) (left_some (r.read p.1) (w.read p) (hr.shaped p.1 x s (ap (λ q. q.1) e)))
  choice_shaped p (inr y) s e =
      let word : (w.write y).0 ≡ p.0 = ap (λ q. q.0) e in
      rw (sym (ap (λ u. bytes_eq u v) word) ∙ apart y) (right_some (r.read p.1) (w.read p) (hw.shaped p y s e))

  pub choice_is : IsWorded (choice v r w)
  choice_is = record {
    back = choice_back;
    exact = λ p z e. (choice_exact p z e).0;
    in_range = λ p z e. (choice_exact p z e).1;
    in_kind = λ p z f e. (choice_same p z f e).0;
    same = λ p z f e. (choice_same p z f e).1;
    shaped = choice_shaped;
  }
