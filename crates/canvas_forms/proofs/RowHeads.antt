-- What rows say besides their properties, and the rows after one another.
use Rattle.std.proofs.Common.{◌≡◌, ◌≢◌, ℕ, zero, suc, ◌+◌, ◌<◌, Bool, true, false, ◌&&◌, List, [], ◌∷◌, length, get_or, None, refl, sym, ◌∙◌, arith, add-one}
use Rattle.std.specs.List.{IsAllAdjacentAnswer}
use Rattle.serde_json.specs.Data.{Items, no_items, item}
use Rattle.serde_json.specs.View.{view, items_view}
use Rattle.serde_json.specs.declared.value.Value.{Value as Json}
use Rattle.canvas_value.proofs.Tests.{both_true}
use Rattle.canvas_forms.specs.JsonTree.{count}
use Rattle.canvas_forms.specs.RowOrder.{two_in, four_in, head_in, is_after, are_each_after}

-- ---- members of another number

pub not_two : (ds : Items) → count ds ≢ 2 → two_in ds ≡ None
not_two no_items n = refl
not_two (item a no_items) n = refl
not_two (item a (item b no_items)) n = absurd (n refl)
not_two (item a (item b (item c ds))) n = refl

pub not_four : (ds : Items) → count ds ≢ 4 → four_in ds ≡ None
not_four no_items n = refl
not_four (item a no_items) n = refl
not_four (item a (item b no_items)) n = refl
not_four (item a (item b (item c no_items))) n = refl
not_four (item a (item b (item c (item d no_items)))) n = absurd (n refl)
not_four (item a (item b (item c (item d (item e ds))))) n = refl

-- ---- neighbours

each_after : (vs : List Json) → ((k : ℕ) (d : Json) → k + 1 < length vs → true ≡ is_after (head_in (view (get_or vs k d))) (head_in (view (get_or vs (k + 1) d)))) → are_each_after (items_view vs) ≡ true
each_after [] h = refl
each_after (v ∷ []) h = refl
each_after (v ∷ w ∷ vs) h =
    both_true _ _ (sym (h 0 v (omega arith))) (each_after (w ∷ vs) (λ k d lt. rw add-one (rw add-one at (h (suc k) d (omega (arith, lt))))))

not_after : (vs : List Json) (k : ℕ) → k + 1 < length vs → ((d : Json) → false ≡ is_after (head_in (view (get_or vs k d))) (head_in (view (get_or vs (k + 1) d)))) → are_each_after (items_view vs) ≡ false
not_after [] k lt h = absurd (omega (arith, lt))
not_after (v ∷ []) k lt h = absurd (omega (arith, lt))
not_after (v ∷ w ∷ vs) zero lt h = rw (sym (h v)) refl
not_after (v ∷ w ∷ vs) (suc k) lt h =
    let rest = not_after (w ∷ vs) k (omega (arith, lt)) (λ d. rw add-one (rw add-one at (h d))) in
    rw rest (and_false (is_after (head_in (view v)) (head_in (view w))))
  where
    and_false : (a : Bool) → (a && false) ≡ false
    and_false true = refl
    and_false false = refl

pub after_answer : (vs : List Json) (r : Bool) → IsAllAdjacentAnswer (λ v w b. b ≡ is_after (head_in (view v)) (head_in (view w))) vs r → r ≡ are_each_after (items_view vs)
after_answer vs true h = sym (each_after vs h)
after_answer vs false h = sym (not_after vs h.0 h.1 h.2)
