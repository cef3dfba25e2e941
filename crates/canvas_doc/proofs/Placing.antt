-- The spots of a document of which one object was added or removed.
use Rattle.std.proofs.Common.{◌≡◌, ◌≢◌, ◌⊎◌, inl, inr, ℕ, suc, zero, ◌+◌, ◌-◌, ◌<◌, ◌≤◌, true, false, cond, List, [], ◌∷◌, length, get_or, set, set-set, Some, None, T, refl, sym, ap, subst, ◌∙◌, arith}
use Rattle.std.specs.Prelude.{not}
use Rattle.std.specs.List.{Contains, insert, remove}
use Rattle.std.specs.Option.{option_and_then, option_map, option_map_or}
use Rattle.std.specs.List.Sorted.{IsStrictlySortedBy}
use Rattle.std.specs.FinMap as map
use Rattle.std.specs.FinMap.Entries.{where_key}
use Rattle.std.specs.Ordering.{is_eq, is_lt}
use Rattle.std.specs.declared.cmp.Ordering.TheVariants.{Less, Equal}
use Rattle.std.proofs.lemmas.Cmp.{tied_itself}
use Rattle.std.proofs.lemmas.Bool.{cases_lt}
use Rattle.std.proofs.lemmas.List.{get_or_default}
use Rattle.std.proofs.lemmas.Map.Keys.{Less-from_sorted}
use Rattle.canvas_model.specs.declared.ObjId.{ObjId}
use Rattle.canvas_model.specs.declared.Kind.{Kind}
use Rattle.canvas_model.specs.declared.Kind.TheVariants.{Document}
use Rattle.canvas_model.specs.Ids.{id_cmp, root, same_id}
use Rattle.canvas_model.specs.Document.{Doc, Object, Place, blank, new_object, place_of}
use Rattle.canvas_doc.specs.Sorted.{is_other, IsPairAt}
use Rattle.canvas_doc.specs.declared.spots.Spot.{Spot}
use Rattle.canvas_doc.specs.Spots.{AreSpots, IsCut, Places, is_before, new_spot, spot_cmp}
use Rattle.canvas_doc.proofs.Maps.{exact_ids, ids_total, differ, get_other, get_same, same_or_differ}
use Rattle.canvas_doc.proofs.Kept.{get_removed}
use Rattle.canvas_doc.proofs.Rooted.{more_inserted}
use Rattle.canvas_doc.proofs.Revised.{removed_doc}
use Rattle.canvas_doc.proofs.Spotted.{spots_with, spots_without, cut_below, cut_above, key, key_cmp, key_at, key_total, before_is, left_is, left_other, placed}

-- a spot to read lists with
pub any_spot : Spot
any_spot = new_spot root (record { parent = root; pos = [] })

-- one object more
module _ (es fs : List (ObjId × Object)) (d : Doc) (id : ObjId) (kind : Kind) (s : Place) (o : Object) (sorted : T (map.is_sorted id_cmp es)) (view : map.from_sorted es ≡ d) (bare : o ≡ new_object kind (Some s)) (is : fs ≡ map.put id_cmp id o es) where
  now_is : map.from_sorted {R = id_cmp} fs ≡ map.insert d id (new_object kind (Some s))
  now_is = more_inserted es fs d id kind s o sorted view bare is

-- one object less
module _ (es fs : List (ObjId × Object)) (d : Doc) (id : ObjId) (sorted : T (map.is_sorted id_cmp es)) (view : map.from_sorted es ≡ d) (kept : fs ≡ where_key id_cmp (is_other id_cmp id) es) where
  left_get : (x : ObjId) → map.get (map.from_sorted {R = id_cmp} fs) x ≡ cond (is_other id_cmp id x) (map.get d x) None
  left_get x = ap (λ d. map.get d x) (removed_doc es fs d id sorted view kept) ∙ get_removed ids_total exact_ids d id x

  stays : (y : ObjId) → y ≢ id → cond (is_other id_cmp id y) (map.get d y) None ≡ map.get d y
  stays y ne = ap (λ b. cond (not b) (map.get d y) None) (differ y id ne)

-- where the spot of an object stands
module _ (p : Places) (spots : List Spot) (are : AreSpots p spots) (id : ObjId) (place : Place) (stands : p id ≡ Some place) (i : ℕ) (cut : IsCut p place.parent place.pos id spots i) where
  own_key : key p (new_spot id place) ≡ (place.parent, (place.pos, id))
  own_key = key_at p (new_spot id place) place stands

  there : Contains spots (new_spot id place)
  there = (are.each (new_spot id place)).1 (ap (option_map (new_spot id)) stands)

  pub spot_found : (i < length spots) × ((d : Spot) → (get_or spots i d).id ≡ id)
  spot_found =
      elim (cases_lt there.0 i) as (λ _. (i < length spots) × ((d : Spot) → (get_or spots i d).id ≡ id)) [
        | inl before ↦ absurd (
            let less : key_cmp (key p (new_spot id place)) (place.parent, (place.pos, id)) ≡ Less = subst (λ s. key_cmp (key p s) (place.parent, (place.pos, id)) ≡ Less) there.2 (cut_below p spots are place.parent place.pos id i cut there.0 (new_spot id place) (omega arith) before) in
            let tied : key_cmp (key p (new_spot id place)) (place.parent, (place.pos, id)) ≡ Equal = subst (λ k. key_cmp k (place.parent, (place.pos, id)) ≡ Equal) (sym own_key) (tied_itself key_total (place.parent, (place.pos, id))) in
            let f : Less ≡ Equal = sym less ∙ tied in cc)
        | inr not_before ↦ elim (cases_lt i there.0) as (λ _. (i < length spots) × ((d : Spot) → (get_or spots i d).id ≡ id)) [
          | inl after ↦ absurd (
              let s = get_or spots i (new_spot id place) in
              let less : key_cmp (key p s) (key p (new_spot id place)) ≡ Less = subst (λ t. spot_cmp p (get_or spots i (new_spot id place)) t ≡ Less) there.2 (Less-from_sorted (spot_cmp p) spots i there.0 (new_spot id place) are.in_order after there.1) in
              let here : key_cmp (key p s) (place.parent, (place.pos, id)) ≡ Less = subst (λ k. key_cmp (key p (get_or spots i (new_spot id place))) k ≡ Less) own_key less in
              let not_less = cut_above p spots are place.parent place.pos id i cut i (new_spot id place) (omega arith) (omega (arith, there.1)) in
              let f : true ≡ false = sym (ap is_lt here) ∙ not_less in cc)
          | inr not_after ↦
              let same : there.0 ≡ i = omega arith in
              let lt : i < length spots = omega (arith, there.1) in
              (lt, λ d. ap (λ (s : Spot). s.id) (get_or_default spots i d (new_spot id place) lt ∙ ap (λ k. get_or spots k (new_spot id place)) (sym same) ∙ there.2))
        ]
      ]

-- an object that is found is live, and stands somewhere unless it is the root
module _ (es : List (ObjId × Object)) (sorted : T (map.is_sorted id_cmp es)) (id : ObjId) (i : ℕ) (found : IsPairAt id_cmp es id i) where
  pub found_is : (d : ObjId × Object) → map.get (map.from_sorted {R = id_cmp} es) id ≡ Some (get_or es i d).1
  found_is d = map.get-from_sorted id_cmp es id sorted ∙ found.found d

-- an object that was replaced twice
pub twice : (es fs gs : List (ObjId × Object)) (id : ObjId) (i : ℕ) (e : ObjId × Object) (b o : Object) → IsPairAt id_cmp es id i → e ≡ get_or es i e → fs ≡ set es i (id, b) → gs ≡ set fs i (id, o) → gs ≡ set es i (e.0, o)
twice es fs gs id i e b o found is first second =
    let key : e.0 ≡ id = ap (λ (x : ObjId × Object). x.0) is ∙ exact_ids (get_or es i e).0 id (found.tied e) in
    second ∙ ap (λ l. set l i (id, o)) first ∙ set-set es i (id, b) (id, o) ∙ ap (λ k. set es i (k, o)) (sym key)

-- an object of which the place is kept
pub places_kept : (d : Doc) (id : ObjId) (before o : Object) → map.get d id ≡ Some before → o.place ≡ before.place → (q : ObjId) → place_of d q ≡ place_of (map.insert d id o) q
places_kept d id before o there place q = elim (same_or_differ q id) as (λ _. place_of d q ≡ place_of (map.insert d id o) q) [
  | inl e ↦ ap (place_of d) e ∙ ap (option_and_then (λ (x : Object). x.place)) there ∙ sym place ∙ sym (ap (option_and_then (λ (x : Object). x.place)) (get_same d id o)) ∙ ap (place_of (map.insert d id o)) (sym e)
  | inr differs ↦ ap (option_and_then (λ (x : Object). x.place)) (sym (get_other d id o q differs))
]

-- and one of which it is another
pub places_moved : (d : Doc) (id : ObjId) (o : Object) (q : ObjId) → q ≢ id → place_of (map.insert d id o) q ≡ place_of d q
places_moved d id o q ne = ap (option_and_then (λ (x : Object). x.place)) (get_other d id o q ne)

pub place_now : (d : Doc) (id : ObjId) (o : Object) → place_of (map.insert d id o) id ≡ o.place
place_now d id o = ap (option_and_then (λ (x : Object). x.place)) (get_same d id o)

-- the root alone has no spots
pub blank_spots : AreSpots (place_of blank) []
unfolding IsStrictlySortedBy
blank_spots = record { in_order = tt; each = λ s. (λ h. absurd (omega (arith, h.1)), λ h. absurd (let f : None ≡ Some s = sym (ap (option_map (new_spot s.id)) (nowhere s.id)) ∙ h in cc)) }
  where
    nowhere : (q : ObjId) → place_of blank q ≡ None
    nowhere q = elim (same_or_differ q root) as (λ _. place_of blank q ≡ None) [
      | inl e ↦ ap (place_of blank) e ∙ place_now map.empty root (new_object Document None)
      | inr ne ↦ places_moved map.empty root (new_object Document None) q ne ∙ ap (option_and_then (λ (x : Object). x.place)) (map.get-empty id_cmp q)
    ]

-- ---- a spot that was moved
at_low : {X : Type 0} (xs : List X) (i k : ℕ) (d : X) → k < i → get_or (remove xs i) k d ≡ get_or xs k d
at_low [] zero k d lt = absurd (omega arith)
at_low [] (suc i) k d lt = refl
at_low (y ∷ xs) zero k d lt = absurd (omega arith)
at_low (y ∷ xs) (suc i) zero d lt = refl
at_low (y ∷ xs) (suc i) (suc k) d lt = at_low xs i k d (omega arith)

at_high : {X : Type 0} (xs : List X) (i k : ℕ) (d : X) → i ≤ k → get_or (remove xs i) k d ≡ get_or xs (suc k) d
at_high [] zero k d le = refl
at_high [] (suc i) k d le = refl
at_high (y ∷ xs) zero k d le = refl
at_high (y ∷ xs) (suc i) zero d le = absurd (omega arith)
at_high (y ∷ xs) (suc i) (suc k) d le = at_high xs i k d (omega arith)

abbrev Moves : ℕ → ℕ → ℕ → Type 0
Moves i k j = (k < i) × (j ≡ k) ⊎ (i ≤ k) × (j ≡ suc k)

at_either : {X : Type 0} (xs : List X) (i k : ℕ) (d : X) → (j : ℕ) × (get_or (remove xs i) k d ≡ get_or xs j d) × Moves i k j
at_either xs i k d = elim (cases_lt k i) as (λ _. (j : ℕ) × (get_or (remove xs i) k d ≡ get_or xs j d) × Moves i k j) [
  | inl low ↦ (k, at_low xs i k d low, inl (low, refl))
  | inr high ↦ (suc k, at_high xs i k d (omega arith), inr (omega arith, refl))
]

abbrev pub Target : ℕ → ℕ → ℕ → Type 0
Target from to n = (from < to) × (n + 1 ≡ to) ⊎ (to ≤ from) × (n ≡ to)

target_within : (from to n size : ℕ) → Target from to n → from < size + 1 → to ≤ size + 1 → n ≤ size
target_within from to n size (inl (a, b)) lt le = omega arith
target_within from to n size (inr (a, b)) lt le = omega arith

target_before : (from to n j : ℕ) → Target from to n → 0 < n → Moves from (n - 1) j → j < to
target_before from to n j (inl (a, b)) pos (inl (c, d)) = omega arith
target_before from to n j (inl (a, b)) pos (inr (c, d)) = omega arith
target_before from to n j (inr (a, b)) pos (inl (c, d)) = omega arith
target_before from to n j (inr (a, b)) pos (inr (c, d)) = omega arith

target_after : (from to n j : ℕ) → Target from to n → Moves from n j → to ≤ j
target_after from to n j (inl (a, b)) (inl (c, d)) = omega arith
target_after from to n j (inl (a, b)) (inr (c, d)) = omega arith
target_after from to n j (inr (a, b)) (inl (c, d)) = omega arith
target_after from to n j (inr (a, b)) (inr (c, d)) = omega arith

moves_within : (i k j size : ℕ) → Moves i k j → k < size → j < size + 1
moves_within i k j size (inl (c, d)) lt = omega arith
moves_within i k j size (inr (c, d)) lt = omega arith

module _ (p q : Places) (spots : List Spot) (are : AreSpots p spots) (id : ObjId) (others : (x : ObjId) → x ≢ id → q x ≡ p x) (s : Place) (stands : q id ≡ Some s) (to : ℕ) (cut : IsCut p s.parent s.pos id spots to)
    (from : ℕ) (x : Spot) (lt : from < length spots) (is : x ≡ get_or spots from x) (of_id : x.id ≡ id) (n : ℕ) (target : Target from to n) where
  without_it : Places
  without_it y = cond (same_id y id) None (p y)

  gone : without_it id ≡ None
  unfolding without_it
  gone = ap (λ r. cond (is_eq r) None (p id)) (tied_itself ids_total id)

  stay : (y : ObjId) → y ≢ id → without_it y ≡ p y
  unfolding without_it
  stay y ne = ap (λ b. cond b None (p y)) (differ y id ne)

  left : AreSpots without_it (remove spots from)
  left = spots_without p without_it spots are id stay gone from x lt is of_id

  size : length (remove spots from) + 1 ≡ length spots
  size = go spots from lt
    where
      go : (xs : List Spot) (i : ℕ) → i < length xs → length (remove xs i) + 1 ≡ length xs
      go [] i lt = absurd (omega arith)
      go (y ∷ xs) zero lt = omega arith
      go (y ∷ xs) (suc i) lt = let rest = go xs i (omega arith) in omega (arith, rest)

  told : (t : Spot) → Contains (remove spots from) t → is_before without_it s.parent s.pos id t ≡ is_lt (key_cmp (key p t) (s.parent, (s.pos, id)))
  told t inside =
      let ne = left_other p without_it spots are id stay gone from x lt is of_id t inside in
      let there = placed p spots are t (left_is p without_it spots are id stay gone from x lt is of_id t inside) in
      before_is without_it s.parent s.pos id t there.0 (stay t.id ne ∙ there.1)
      ∙ (λ i. is_lt (key_cmp (t.parent, (option_map_or (λ (x : Place). x.pos) (stay t.id ne i) [], t.id)) (s.parent, (s.pos, id))))

  inside_at : (k : ℕ) (d : Spot) → k < length (remove spots from) → Contains (remove spots from) (get_or (remove spots from) k d)
  inside_at k d lk = (k, lk, get_or_default (remove spots from) k (get_or (remove spots from) k d) d lk)

  cut_left : IsCut without_it s.parent s.pos id (remove spots from) n
  cut_left = record {
    within = target_within from to n (length (remove spots from)) target (omega (arith, size)) (omega (arith, size, cut.within));
    before = λ d pos.
        let le : n ≤ length (remove spots from) = target_within from to n (length (remove spots from)) target (omega (arith, size)) (omega (arith, size, cut.within)) in
        let lk : n - 1 < length (remove spots from) = omega arith in
        let at = at_either spots from (n - 1) d in
        let low : at.0 < to = target_before from to n at.0 target pos at.2 in
        let less = cut_below p spots are s.parent s.pos id to cut at.0 d (omega arith) low in
        sym (told (get_or (remove spots from) (n - 1) d) (inside_at (n - 1) d lk) ∙ ap (λ t. is_lt (key_cmp (key p t) (s.parent, (s.pos, id)))) at.1 ∙ ap is_lt less);
    after = λ d lk.
        let at = at_either spots from n d in
        let high : to ≤ at.0 = target_after from to n at.0 target at.2 in
        let near : at.0 < length (remove spots from) + 1 = moves_within from n at.0 (length (remove spots from)) at.2 lk in
        let in_range : at.0 < length spots = omega (arith, near, size) in
        let not_less = cut_above p spots are s.parent s.pos id to cut at.0 d high in_range in
        sym (told (get_or (remove spots from) n d) (inside_at n d lk) ∙ ap (λ t. is_lt (key_cmp (key p t) (s.parent, (s.pos, id)))) at.1 ∙ not_less);
  }

  pub moved_spots : AreSpots q (insert (remove spots from) n (new_spot id s))
  moved_spots = spots_with without_it q (remove spots from) left id (λ y ne. others y ne ∙ sym (stay y ne)) gone s stands n cut_left
