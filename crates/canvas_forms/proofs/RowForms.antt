-- Rows have forms: what is written is read, and nothing else is.
use Rattle.std.proofs.Common.{◌≡◌, ◌&&◌, map, List, [], ◌∷◌, Bool, true, false, cond, T, Option, Some, None, is_some, refl, ap, sym, subst, ◌∙◌}
use Rattle.std.specs.FinMap as finmap
use Rattle.std.specs.FinMap.Entries.{below_all}
use Rattle.std.specs.declared.cmp.Ordering.{Ordering}
use Rattle.std.specs.Ordering.{is_lt}
use Rattle.serde_json.specs.Data.{Data, string, array, Items, no_items, item}
use Rattle.canvas_model.specs.Value.{Value}
use Rattle.canvas_model.specs.Document.{Name, name_cmp}
use Rattle.canvas_codec.specs.Shape.{shape}
use Rattle.canvas_codec.specs.Codec.{Form, IsForm, IsCodec}
use Rattle.canvas_codec.proofs.Forms.{first, via_is, maybe_is, end_is, member_is, each_is, array_is}
use Rattle.canvas_value.proofs.Tests.{both_hold, both_true}
use Rattle.canvas_codec.proofs.Laws.{value_is}
use Rattle.canvas_forms.specs.Only.{kept, only}
use Rattle.canvas_forms.specs.Places.{place_form}
use Rattle.canvas_forms.specs.Rows.{prop_form, listed_form, named_form, props_form, row_form, rows_form}
use Rattle.canvas_forms.proofs.Forms.{id_is, kind_is, name_is, place_is}

-- ---- what meets a test

module _ {D X : Type 0} (form : D → D) (test : X → Bool) (f : Form D X) (h : IsForm form f) (same_test : (x y : X) → form (f.write x) ≡ form (f.write y) → test x ≡ test y) where
  kept_case : (t : Bool) (r : X × Bool) (x : X) (b : Bool) → test r.0 ≡ t → cond {A = Option (X × Bool)} t (Some r) None ≡ Some (x, b) → (◌≡◌ {A = Option (X × Bool)} (Some r) (Some (x, b))) × (test x ≡ true)
  kept_case true r x b k e = (e, sym (ap test (first e)) ∙ k)
  kept_case false r x b k e = cc

  kept_was : (o : Option (X × Bool)) (x : X) (b : Bool) → kept test o ≡ Some (x, b) → (o ≡ Some (x, b)) × (test x ≡ true)
  kept_was None x b e = cc
  kept_was (Some r) x b e = kept_case (test r.0) r x b refl e

  kept_some : (o : Option (X × Bool)) → is_some o ≡ true → ((x : X) (b : Bool) → o ≡ Some (x, b) → test x ≡ true) → is_some (kept test o) ≡ true
  kept_some None e k = e
  kept_some (Some r) e k = rw (k r.0 r.1 refl) refl

  kept_same : (o : Option (X × Bool)) (x : X) → o ≡ Some (x, true) → test x ≡ true → kept test o ≡ Some (x, true)
  kept_same o x e k = ap (kept test) e ∙ rw k refl

  pub only_is : IsForm form (only test f)
  only_is = record {
    back = λ x s e. let k = both_hold (f.sound x) (test x) s in kept_same (f.read (f.write x)) x (h.back x k.0 e) k.1;
    exact = λ d x e. h.exact d x (kept_was (f.read d) x true e).0;
    in_range = λ d x e. h.in_range d x (kept_was (f.read d) x true e).0;
    in_kind = λ d x b e. let k = kept_was (f.read d) x b e in both_true (f.sound x) (test x) (h.in_kind d x b k.0) k.1;
    same = λ d x b e. h.same d x b (kept_was (f.read d) x b e).0;
    shaped = λ d x s e. let k = both_hold (f.sound x) (test x) s in kept_some (f.read d) (h.shaped d x k.0 e) (λ y b r. same_test y x (h.same d y b r ∙ sym e) ∙ k.1);
  }

-- ---- properties: the order of their names is told from the shape of their JSON tree

name_at : Data → Name
name_at (array (item (string s) ds)) = s
name_at _ = []

item_names : Items → List Name
item_names no_items = []
item_names (item d ds) = name_at d ∷ item_names ds

names_at : Data → List Name
names_at (array ds) = item_names ds
names_at _ = []

names_written : (xs : List (Name × Value)) → names_at (shape (listed_form.write xs)) ≡ map (λ p. p.0) xs
unfolding names_at item_names name_at
names_written [] = refl
names_written (x ∷ xs) = ap (λ ns. x.0 ∷ ns) (names_written xs)

module _ {K : Type 0} (R : K → K → Ordering) where
  keys_below : K → List K → Bool
  keys_below x [] = true
  keys_below x (k ∷ ks) = is_lt (R x k) && keys_below x ks

  keys_rise : List K → Bool
  keys_rise [] = true
  keys_rise (k ∷ ks) = keys_below k ks && keys_rise ks

module _ {K X : Type 0} (R : K → K → Ordering) where
  below_keys : (x : K) (es : List (K × X)) → below_all R x es ≡ keys_below R x (map (λ e. e.0) es)
  unfolding keys_below
  below_keys x [] = refl
  below_keys x (e ∷ es) = ap (λ b. is_lt (R x e.0) && b) (below_keys x es)

  sorted_keys : (es : List (K × X)) → finmap.is_sorted R es ≡ keys_rise R (map (λ e. e.0) es)
  unfolding keys_rise
  sorted_keys [] = refl
  sorted_keys (e ∷ es) = λ i. below_keys e.0 es i && sorted_keys es i

same_order : (xs ys : List (Name × Value)) → shape (listed_form.write xs) ≡ shape (listed_form.write ys) → finmap.is_sorted name_cmp xs ≡ finmap.is_sorted name_cmp ys
same_order xs ys e =
    let names = sym (names_written xs) ∙ ap names_at e ∙ names_written ys in
    sorted_keys name_cmp xs ∙ ap (keys_rise name_cmp) names ∙ sym (sorted_keys name_cmp ys)

pub prop_is : IsCodec prop_form
prop_is = via_is shape _ _ _ (array_is _ (member_is _ _ name_is (member_is _ _ value_is end_is))) (λ p. refl) (λ p s. refl)

pub listed_is : IsCodec listed_form
listed_is = array_is _ (each_is prop_form prop_is)

pub named_is : IsCodec named_form
named_is = only_is shape (finmap.is_sorted name_cmp) listed_form listed_is same_order

pub entries_back : (m : finmap.FinMap name_cmp Value) → finmap.from_sorted (finmap.entries m) ≡ m
entries_back m = finmap.same_entries_map _ _ (finmap.entries-from_sorted name_cmp (finmap.entries m) (finmap.entries_sorted m))

entries_only : (xs : List (Name × Value)) → named_form.sound xs ≡ true → finmap.entries (finmap.from_sorted {R = name_cmp} xs) ≡ xs
entries_only xs s = finmap.entries-from_sorted name_cmp xs (subst T (sym (both_hold (listed_form.sound xs) (finmap.is_sorted name_cmp xs) s).1) tt)

pub props_is : IsCodec props_form
props_is = via_is shape finmap.from_sorted finmap.entries named_form named_is entries_back entries_only

-- ---- rows

pub row_is : IsCodec row_form
row_is = via_is shape _ _ _ (array_is _ (member_is _ _ id_is (member_is _ _ kind_is (member_is _ _ (maybe_is place_form place_is (λ place e. cc)) (member_is _ _ props_is end_is))))) (λ row. refl) (λ p s. refl)

pub rows_is : IsCodec rows_form
rows_is = array_is _ (each_is row_form row_is)
