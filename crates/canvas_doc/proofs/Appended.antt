-- Rows with one more at the end.
use Rattle.std.proofs.Common.{◌≡◌, ◌≢◌, inl, inr, List, [], ◌∷◌, ◌++◌, None, Some, T, All, refl, sym, ap, subst, ◌∙◌, ℕ, arith}
use Rattle.std.proofs.lemmas.List.{get_or_append_left, length-append}
use Rattle.std.specs.List.{insert}
use Rattle.std.specs.Option.{option_and_then, option_map}
use Rattle.std.specs.List.Sorted.{IsStrictlySortedBy}
use Rattle.std.specs.Cmp.{IsTotalOrder}
use Rattle.std.specs.FinMap as map
use Rattle.std.specs.declared.cmp.Ordering.{Ordering}
use Rattle.std.specs.declared.cmp.Ordering.TheVariants.{Less}
use Rattle.canvas_model.specs.declared.ObjId.{ObjId}
use Rattle.canvas_model.specs.Ids.{id_cmp}
use Rattle.canvas_model.specs.Document.{Object, Place, place_of}
use Rattle.canvas_doc.specs.declared.spots.Spot.{Spot}
use Rattle.canvas_doc.specs.Spots.{AreSpots, IsCut, new_spot}
use Rattle.canvas_doc.proofs.Maps.{ids_total, get_is, put_inserts, same_or_differ}
use Rattle.canvas_doc.proofs.Placing.{place_now, places_moved}
use Rattle.canvas_doc.proofs.Searched.{below, greater, head_below, front_sorted, second}
use Rattle.canvas_doc.proofs.Spotted.{spots_same, spots_with}

module _ {K X : Type 0} {R : K → K → Ordering} (o : IsTotalOrder R) (k : K) (v : X) where
  below_last : (x : K) (es : List (K × X)) → below o x (es ++ (k, v) ∷ []) → R x k ≡ Less
  below_last x [] h = h.0
  below_last x (e ∷ es) h = below_last x es h.1

  -- it is put there, and wasn't there before
  pub last_put : (es : List (K × X)) → T (map.is_sorted R (es ++ (k, v) ∷ [])) → es ++ (k, v) ∷ [] ≡ map.put R k v es
  last_put [] h = refl
  last_put (e ∷ es) h = rw (greater o e.0 k (below_last e.0 es (head_below o e (es ++ (k, v) ∷ []) h))) (ap (λ es. e ∷ es) (last_put es (second _ _ h)))

  pub not_before : (es : List (K × X)) → T (map.is_sorted R (es ++ (k, v) ∷ [])) → map.find R k es ≡ None
  not_before [] h = refl
  not_before (e ∷ es) h = rw (greater o e.0 k (below_last e.0 es (head_below o e (es ++ (k, v) ∷ []) h))) (not_before es (second _ _ h))

module _ (es fs : List (ObjId × Object)) (id : ObjId) (o : Object) (whole : T (map.is_sorted id_cmp (es ++ (id, o) ∷ []))) (is : fs ≡ es ++ (id, o) ∷ []) where
  sorted : T (map.is_sorted id_cmp es)
  sorted = front_sorted ids_total es ((id, o) ∷ []) whole

  now_is : map.from_sorted {R = id_cmp} fs ≡ map.insert (map.from_sorted es) id o
  now_is = put_inserts ids_total es fs (map.from_sorted es) id o sorted refl (is ∙ last_put ids_total id o es whole)

  nowhere : place_of (map.from_sorted es) id ≡ None
  nowhere = ap (option_and_then (λ (x : Object). x.place)) (get_is es (map.from_sorted es) id sorted refl ∙ not_before ids_total id o es whole)

  others : (q : ObjId) → q ≢ id → place_of (map.from_sorted {R = id_cmp} fs) q ≡ place_of (map.from_sorted es) q
  others q ne = ap (λ d. place_of d q) now_is ∙ places_moved (map.from_sorted es) id o q ne

  own : place_of (map.from_sorted {R = id_cmp} fs) id ≡ o.place
  own = ap (λ d. place_of d id) now_is ∙ place_now (map.from_sorted es) id o

  module _ (spots : List Spot) (are : AreSpots (place_of (map.from_sorted es)) spots) where
    pub spot_more : (s : Place) → o.place ≡ Some s → (i : ℕ) → IsCut (place_of (map.from_sorted es)) s.parent s.pos id spots i → AreSpots (place_of (map.from_sorted fs)) (insert spots i (new_spot id s))
    spot_more s stands i cut = spots_with (place_of (map.from_sorted es)) (place_of (map.from_sorted fs)) spots are id others nowhere s (own ∙ stands) i cut

    pub spots_stay : o.place ≡ None → AreSpots (place_of (map.from_sorted fs)) spots
    spots_stay none = spots_same (place_of (map.from_sorted es)) (place_of (map.from_sorted fs)) spots (λ q. elim (same_or_differ q id) as (λ _. place_of (map.from_sorted es) q ≡ place_of (map.from_sorted fs) q) [
      | inl e ↦ ap (place_of (map.from_sorted es)) e ∙ nowhere ∙ sym (own ∙ none) ∙ sym (ap (place_of (map.from_sorted fs)) e)
      | inr ne ↦ sym (others q ne)
    ]) are

-- no rows have no spots
none_stand : AreSpots (place_of (map.from_sorted {R = id_cmp} [])) []
unfolding IsStrictlySortedBy
none_stand = record { in_order = tt; each = λ s. (λ h. absurd (omega (arith, h.1)), λ h. absurd (let f : None ≡ Some s = sym (ap (λ x. option_map (new_spot s.id) (option_and_then (λ (x : Object). x.place) x)) (map.get-from_sorted id_cmp [] s.id tt)) ∙ h in cc)) }

pub no_spots : (es : List (ObjId × Object)) (spots : List Spot) → es ≡ [] → spots ≡ [] → AreSpots (place_of (map.from_sorted {R = id_cmp} es)) spots
no_spots es spots none none_too = subst (AreSpots (place_of (map.from_sorted {R = id_cmp} es))) (sym none_too) (subst (λ es. AreSpots (place_of (map.from_sorted {R = id_cmp} es)) []) (sym none) none_stand)

-- what holds of all items holds of the first ones
pub all_front : {X : Type 0} (P : X → Type 0) (xs ys : List X) → All P (xs ++ ys) → All P xs
all_front P xs ys all k d lt = subst P (get_or_append_left xs ys d k lt) (all k d (omega (arith, lt, length-append xs ys)))

pub nothing_left : {X : Type 0} (xs : List X) → Rattle.std.specs.Prelude.length xs ≡ 0 → xs ≡ []
nothing_left [] e = refl
nothing_left (x ∷ xs) e = absurd (omega arith)
