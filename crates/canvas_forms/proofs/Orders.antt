-- What is written of rows in order.
use Rattle.std.proofs.Common.{◌≡◌, ◌≢◌, ℕ, zero, suc, ◌+◌, ◌<◌, ◌⊎◌, inl, inr, pos, Bool, true, false, true≢false, cond, ◌&&◌, List, [], ◌∷◌, length, get_or, Option, Some, None, T, codes, bytes_eq, refl, ap, sym, ◌∙◌, arith, add-one}
use Rattle.std.specs.Prelude.{IsTrue, is_some, not}
use Rattle.std.specs.List.{list_all, IsAllAdjacentAnswer}
use Rattle.std.specs.Ordering.{nat_cmp, int_cmp, ordering_then, is_lt, is_eq}
use Rattle.std.specs.FinMap as map
use Rattle.std.proofs.lemmas.Cmp.{tied_itself}
use Rattle.canvas_model.specs.declared.ObjId.{ObjId}
use Rattle.canvas_model.specs.declared.Kind.{Kind}
use Rattle.canvas_model.specs.declared.Kind.TheVariants.{Document, Page, Frame, Shape, Text}
use Rattle.canvas_model.specs.Ids.{id_cmp, root}
use Rattle.canvas_model.specs.Text.{kind_word}
use Rattle.canvas_model.specs.Document.{Object, Place}
use Rattle.canvas_doc.specs.Whole.{AreDocument, IsRoot, is_placed}
use Rattle.canvas_doc.proofs.Maps.{ids_total, same_exact}
use Rattle.canvas_doc.proofs.Searched.{second, head_below, below_at, rising_answer}
use Rattle.canvas_doc.proofs.Whole.{rooted_is_document}
use Rattle.canvas_codec.specs.Parts.{each_written, maybe_written}
use Rattle.canvas_value.proofs.Tests.{both_hold, both_true}
use Rattle.canvas_forms.specs.Places.{place_form}
use Rattle.canvas_forms.specs.Rows.{row_form, rows_form}
use Rattle.canvas_forms.specs.RowOrder.{wide_cmp, wide_root, head_in, is_given, is_root, is_row, is_after, are_after, are_in_order}
use Rattle.canvas_forms.specs.declared.order.WideId.{WideId}
use Rattle.canvas_forms.specs.declared.order.RowHead.{RowHead}

-- ---- what is written of rows

abbrev wide : ObjId → WideId
wide id = record { client = pos id.client; counter = pos id.counter }

-- what a written row says
abbrev head_of : ObjId × Object → RowHead
head_of e = record { id = wide e.0; is_document = bytes_eq (kind_word e.1.kind) (codes "document"); is_placed = is_given (maybe_written place_form.write e.1.place) }

head_written : (e : ObjId × Object) → head_in (row_form.write e) ≡ Some (head_of e)
head_written e = refl

same_order : (m n : ℕ) → int_cmp (pos m) (pos n) ≡ nat_cmp m n
same_order m n = grind arith

wide_order : (p q : ObjId) → wide_cmp (wide p) (wide q) ≡ id_cmp p q
wide_order p q = λ i. ordering_then (same_order p.client q.client i) (same_order p.counter q.counter i)

kind_told : (kind : Kind) → bytes_eq (kind_word kind) (codes "document") ≡ true → kind ≡ Document
kind_told Document e = refl
kind_told Page e = cc
kind_told Frame e = cc
kind_told Shape e = cc
kind_told Text e = cc

place_told : (place : Option Place) → is_given (maybe_written place_form.write place) ≡ is_some place
place_told None = refl
place_told (Some place) = refl

no_place : (place : Option Place) → is_some place ≡ false → place ≡ None
no_place None e = refl
no_place (Some place) e = cc

was_not : (b : Bool) → not b ≡ true → b ≡ false
was_not true e = absurd (true≢false (sym e))
was_not false e = refl

-- the first row is the root's exactly where the object is the root
root_told : (e : ObjId × Object) → is_root (Some (head_of e)) ≡ true → IsRoot e
root_told e h =
    let a = both_hold (is_eq (wide_cmp (wide e.0) wide_root)) _ h in
    let b = both_hold (bytes_eq (kind_word e.1.kind) (codes "document")) _ a.1 in
    (same_exact e.0 root (sym (ap is_eq (wide_order e.0 root)) ∙ a.0), kind_told e.1.kind b.0, no_place e.1.place (sym (place_told e.1.place) ∙ was_not _ b.1))

root_written : (e : ObjId × Object) → IsRoot e → is_root (Some (head_of e)) ≡ true
root_written e (id, kind, place) =
    let same : is_eq (wide_cmp (wide e.0) wide_root) ≡ true = ap is_eq (wide_order e.0 root ∙ ap (λ q. id_cmp q root) id ∙ tied_itself ids_total root) in
    both_true _ _ same (rw (kind, place) refl)

-- the rows after one
after_sorted : (e : ObjId × Object) (es : List (ObjId × Object)) → are_after (row_form.write e) (each_written row_form.write es) ≡ true
    → (k : ℕ) (d : ObjId × Object) → k + 1 < length (e ∷ es) → true ≡ is_lt (id_cmp (get_or (e ∷ es) k d).0 (get_or (e ∷ es) (k + 1) d).0)
after_sorted e [] h k d lt = absurd (omega (arith, lt))
after_sorted e (f ∷ fs) h zero d lt =
    let a = both_hold (is_after (Some (head_of e)) (Some (head_of f))) _ h in
    let b = both_hold (is_lt (wide_cmp (wide e.0) (wide f.0))) _ a.0 in
    sym b.0 ∙ ap is_lt (wide_order e.0 f.0)
after_sorted e (f ∷ fs) h (suc k) d lt =
    let a = both_hold (is_after (Some (head_of e)) (Some (head_of f))) _ h in
    rw add-one (rw add-one at (after_sorted f fs a.1 k d (omega (arith, lt))))

after_placed : (e : ObjId × Object) (es : List (ObjId × Object)) → are_after (row_form.write e) (each_written row_form.write es) ≡ true → list_all is_placed es ≡ true
after_placed e [] h = refl
after_placed e (f ∷ fs) h =
    let a = both_hold (is_after (Some (head_of e)) (Some (head_of f))) _ h in
    let b = both_hold (is_lt (wide_cmp (wide e.0) (wide f.0))) _ a.0 in
    both_true (is_placed f) (list_all is_placed fs) (sym (place_told f.1.place) ∙ b.1) (after_placed f fs a.1)

after_written : (e : ObjId × Object) (es : List (ObjId × Object)) → T (map.is_sorted id_cmp (e ∷ es)) → list_all is_placed es ≡ true → are_after (row_form.write e) (each_written row_form.write es) ≡ true
after_written e [] sorted placed = refl
after_written e (f ∷ fs) sorted placed =
    let p = both_hold (is_placed f) (list_all is_placed fs) placed in
    let less = below_at ids_total e.0 (f ∷ fs) (head_below ids_total e (f ∷ fs) sorted) 0 f (omega arith) in
    let here : is_lt (wide_cmp (wide e.0) (wide f.0)) ≡ true = ap is_lt (wide_order e.0 f.0 ∙ less) in
    both_true _ _ (both_true _ _ here (place_told f.1.place ∙ p.0)) (after_written f fs (second _ _ sorted) p.1)

-- rows stand in order exactly where their objects are a document
pub ordered_document : (es : List (ObjId × Object)) → are_in_order (rows_form.write es) ≡ true → AreDocument es
ordered_document [] h = absurd (true≢false (sym h))
ordered_document (e ∷ es) h =
    let a = both_hold (is_root (Some (head_of e))) _ h in
    let sorted : T (map.is_sorted id_cmp (e ∷ es)) = (rising_answer ids_total (e ∷ es) true (after_sorted e es a.1)).0 refl in
    (rooted_is_document (e ∷ es) sorted).0 (root_told e a.0, after_placed e es a.1)

pub document_ordered : (es : List (ObjId × Object)) → AreDocument es → are_in_order (rows_form.write es) ≡ true
document_ordered [] are = absurd ((rooted_is_document [] are.sorted).1 are)
document_ordered (e ∷ es) are =
    let rooted = (rooted_is_document (e ∷ es) are.sorted).1 are in
    both_true _ _ (root_written e rooted.0) (after_written e es are.sorted rooted.1)

-- ---- a row by itself

-- what such a row is of another object's id
other_told : (e : ObjId × Object) (same : Bool) → is_eq (wide_cmp (wide e.0) wide_root) ≡ same → cond same ((head_of e).is_document && not (head_of e).is_placed) (head_of e).is_placed ≡ true
    → IsRoot e ⊎ ((e.0 ≢ root) × IsTrue (is_placed e))
other_told e true same h = inl (root_told e (both_true _ _ same h))
other_told e false same h =
    let apart : is_eq (id_cmp e.0 root) ≡ false = sym (ap is_eq (wide_order e.0 root)) ∙ same in
    inr (λ is. true≢false (sym (ap is_eq (ap (λ q. id_cmp q root) is ∙ tied_itself ids_total root)) ∙ apart), sym (place_told e.1.place) ∙ h)

-- what is written of an object is such a row exactly where it is the root, a document without a place, or another object, which has a place
pub row_told : (e : ObjId × Object) → is_row (head_in (row_form.write e)) ≡ true → IsRoot e ⊎ ((e.0 ≢ root) × IsTrue (is_placed e))
row_told e h = other_told e (is_eq (wide_cmp (wide e.0) wide_root)) refl h

pub row_written : (e : ObjId × Object) → IsRoot e ⊎ ((e.0 ≢ root) × IsTrue (is_placed e)) → is_row (head_in (row_form.write e)) ≡ true
row_written e (inl is) =
    let at_root = both_hold (is_eq (wide_cmp (wide e.0) wide_root)) _ (root_written e is) in
    ap (λ same. cond same ((head_of e).is_document && not (head_of e).is_placed) (head_of e).is_placed) at_root.0 ∙ at_root.1
row_written e (inr other) = other_written e (is_eq (wide_cmp (wide e.0) wide_root)) refl other.0 (place_told e.1.place ∙ other.1)
  where
    other_written : (e : ObjId × Object) (same : Bool) → is_eq (wide_cmp (wide e.0) wide_root) ≡ same → e.0 ≢ root → (head_of e).is_placed ≡ true
        → cond same ((head_of e).is_document && not (head_of e).is_placed) (head_of e).is_placed ≡ true
    other_written e true same apart placed = absurd (apart (same_exact e.0 root (sym (ap is_eq (wide_order e.0 root)) ∙ same)))
    other_written e false same apart placed = placed
