-- Spots in order, of which one was added or taken out.
use Rattle.std.proofs.Common.{◌≡◌, ◌≢◌, inl, inr, ℕ, suc, zero, ◌+◌, ◌-◌, ◌<◌, ◌≤◌, Bool, true, false, List, [], ◌∷◌, length, get_or, Option, Some, None, refl, sym, ap, subst, ◌∙◌, arith}
use Rattle.std.specs.List.{AllWithin, AllByRecursion, Contains, insert, remove}
use Rattle.std.specs.List.Sorted.{IsStrictlySortedBy, IsNonDecreasingBy}
use Rattle.std.specs.Option.{option_map, option_map_or}
use Rattle.std.specs.Cmp.{IsTotalOrder}
use Rattle.std.specs.Cmp.Lexicographic.{slice_cmp, nat_list_cmp_total}
use Rattle.std.specs.declared.cmp.Ordering.{Ordering}
use Rattle.std.specs.declared.cmp.Ordering.TheVariants.{Less, Equal, Greater}
use Rattle.std.specs.Ordering.{is_lt, match_ordering, nat_cmp, on, ordering_index, ordering_reverse, ordering_then, then_cmp}
use Rattle.std.proofs.lemmas.List.{get_or_default}
use Rattle.std.proofs.lemmas.Cmp.{on_total, then_total, tied_itself}
use Rattle.std.proofs.lemmas.List.Sorted.{Contains-permutation, IsPermutation-insert, IsPermutation-remove, IsPermutation-sym, searchable_from_sorted}
use Rattle.std.proofs.lemmas.Map.Keys.{Less-from_sorted}
use Rattle.canvas_model.specs.declared.ObjId.{ObjId}
use Rattle.canvas_model.specs.Ids.{id_cmp}
use Rattle.canvas_model.specs.Document.{Place, Pos}
use Rattle.canvas_doc.specs.declared.spots.Spot.{Spot}
use Rattle.canvas_doc.specs.Spots.{AreSpots, IsCut, Places, is_before, is_lower, new_spot, parent_at, position_at, spot_at, spot_cmp}
use Rattle.canvas_doc.proofs.Maps.{exact_ids, ids_total, same_or_differ}
use Rattle.canvas_doc.proofs.Searched.{greater}
use Rattle.canvas_doc.proofs.Edges.{is_less, lowest}

-- ---- lists in strict order
module _ {X : Type 0} where
  all_from : (P : X → Type 0) (xs : List X) → AllWithin P xs 0 (length xs) → AllByRecursion P xs
  all_from P [] h = tt
  all_from P (x ∷ xs) h = (h 0 x (omega arith) (omega arith), all_from P xs (λ k d low lt. h (suc k) d (omega arith) (omega arith)))

  all_at : (P : X → Type 0) (xs : List X) → AllByRecursion P xs → (k : ℕ) (d : X) → k < length xs → P (get_or xs k d)
  all_at P [] h k d lt = absurd (omega arith)
  all_at P (x ∷ xs) h zero d lt = h.0
  all_at P (x ∷ xs) h (suc k) d lt = all_at P xs h.1 k d (omega arith)

  all_insert : (P : X → Type 0) (xs : List X) (i : ℕ) (x : X) → i ≤ length xs → AllByRecursion P xs → P x → AllByRecursion P (insert xs i x)
  all_insert P xs zero x le h p = (p, h)
  all_insert P [] (suc i) x le h p = absurd (omega arith)
  all_insert P (y ∷ xs) (suc i) x le h p = (h.0, all_insert P xs i x (omega arith) h.1 p)

  all_remove : (P : X → Type 0) (xs : List X) (i : ℕ) → AllByRecursion P xs → AllByRecursion P (remove xs i)
  all_remove P [] zero h = tt
  all_remove P [] (suc i) h = tt
  all_remove P (y ∷ xs) zero h = h.1
  all_remove P (y ∷ xs) (suc i) h = (h.0, all_remove P xs i h.1)

  all_mapped : (P Q : X → Type 0) (xs : List X) → AllByRecursion P xs → ((x : X) → P x → Q x) → AllByRecursion Q xs
  all_mapped P Q [] h f = tt
  all_mapped P Q (x ∷ xs) h f = (f x h.0, all_mapped P Q xs h.1 f)

  all_contained : (P : X → Type 0) (xs : List X) → AllByRecursion P xs → (x : X) → Contains xs x → P x
  all_contained P xs h x inside = subst P inside.2 (all_at P xs h inside.0 x inside.1)

  sorted_insert : (R : X → X → Ordering) (xs : List X) (i : ℕ) (x : X) → i ≤ length xs → IsStrictlySortedBy R xs → AllWithin (λ y. R y x ≡ Less) xs 0 i → AllWithin (λ y. R x y ≡ Less) xs i (length xs) → IsStrictlySortedBy R (insert xs i x)
  unfolding IsStrictlySortedBy
  sorted_insert R xs zero x le h below above = (all_from (λ y. R x y ≡ Less) xs above, h)
  sorted_insert R [] (suc i) x le h below above = absurd (omega arith)
  sorted_insert R (y ∷ xs) (suc i) x le h below above = (
    all_insert (λ z. R y z ≡ Less) xs i x (omega arith) h.0 (below 0 y (omega arith) (omega arith)),
    sorted_insert R xs i x (omega arith) h.1 (λ k d low lt. below (suc k) d (omega arith) (omega arith)) (λ k d low lt. above (suc k) d (omega arith) (omega arith)),
  )

  sorted_remove : (R : X → X → Ordering) (xs : List X) (i : ℕ) → IsStrictlySortedBy R xs → IsStrictlySortedBy R (remove xs i)
  unfolding IsStrictlySortedBy
  sorted_remove R [] zero h = tt
  sorted_remove R [] (suc i) h = tt
  sorted_remove R (y ∷ xs) zero h = h.1
  sorted_remove R (y ∷ xs) (suc i) h = (all_remove (λ z. R y z ≡ Less) xs i h.0, sorted_remove R xs i h.1)

  -- by another order that agrees on these
  sorted_same : (R S : X → X → Ordering) (ok : X → Type 0) → ((x y : X) → ok x → ok y → R x y ≡ Less → S x y ≡ Less) → (xs : List X) → AllByRecursion ok xs → IsStrictlySortedBy R xs → IsStrictlySortedBy S xs
  unfolding IsStrictlySortedBy
  sorted_same R S ok agrees [] oks h = tt
  sorted_same R S ok agrees (x ∷ xs) oks h = (go xs oks.1 h.0, sorted_same R S ok agrees xs oks.1 h.1)
    where
      go : (ys : List X) → AllByRecursion ok ys → AllByRecursion (λ y. R x y ≡ Less) ys → AllByRecursion (λ y. S x y ≡ Less) ys
      go [] others h = tt
      go (y ∷ ys) others h = (agrees x y oks.0 others.0 h.0, go ys others.1 h.1)

  -- what is left differs from what was taken out
  left_differs : (R : X → X → Ordering) (o : IsTotalOrder R) (xs : List X) (i : ℕ) (x : X) → i < length xs → x ≡ get_or xs i x → IsStrictlySortedBy R xs → AllByRecursion (λ y. y ≢ x) (remove xs i)
  unfolding IsStrictlySortedBy
  left_differs R o [] i x lt is h = absurd (omega arith)
  left_differs R o (y ∷ xs) zero x lt is h = all_mapped (λ z. R y z ≡ Less) (λ z. z ≢ x) xs h.0 (λ z less same.
      let tied : R z z ≡ Equal = tied_itself o z in
      let below : R z z ≡ Less = subst (λ w. R w z ≡ Less) (sym is ∙ sym same) less in
      let f : Less ≡ Equal = sym below ∙ tied in cc)
  left_differs R o (y ∷ xs) (suc i) x lt is h = (
    (λ same.
        let tied : R x x ≡ Equal = tied_itself o x in
        let there : R y x ≡ Less = subst (λ w. R y w ≡ Less) (sym is) (all_at (λ z. R y z ≡ Less) xs h.0 i x (omega arith)) in
        let below : R x x ≡ Less = subst (λ w. R w x ≡ Less) same there in
        let f : Less ≡ Equal = sym below ∙ tied in cc),
    left_differs R o xs i x (omega arith) is h.1,
  )

-- ---- where an edge lies in a list in order
at_least : (o : Ordering) → is_lt o ≡ false → 1 ≤ ordering_index o
at_least Less e = absurd (let f : true ≡ false = e in cc)
at_least Equal e = omega arith
at_least Greater e = omega arith

not_lower : (o : Ordering) → 1 ≤ ordering_index o → is_lt o ≡ false
not_lower Less le = absurd (omega arith)
not_lower Equal le = refl
not_lower Greater le = refl

module _ {X : Type 0} (rank : X → Ordering) (xs : List X) (rise : IsNonDecreasingBy (λ x. ordering_index (rank x)) xs) (i : ℕ) (within : i ≤ length xs) where
  pub lower_before : ((d : X) → 0 < i → true ≡ is_lt (rank (get_or xs (i - 1) d))) → AllWithin (λ x. rank x ≡ Less) xs 0 i
  lower_before last j d low lt =
      let index : ordering_index (rank (get_or xs (i - 1) d)) ≡ 0 = ap ordering_index (is_less _ (last d (omega arith))) in
      let up = rise j (i - 1) d (omega arith) (omega arith) in
      lowest _ (omega (arith, index, up))

  pub higher_after : ((d : X) → i < length xs → false ≡ is_lt (rank (get_or xs i d))) → AllWithin (λ x. is_lt (rank x) ≡ false) xs i (length xs)
  higher_after first j d low lt =
      let index = at_least (rank (get_or xs i d)) (sym (first d (omega arith))) in
      let up = rise i j d low lt in
      not_lower _ (omega (arith, index, up))

-- ---- spots as keys
abbrev pub Key : Type 0
Key = ObjId × (Pos × ObjId)

abbrev pub key_cmp : Key → Key → Ordering
key_cmp = then_cmp (on (λ k. k.0) id_cmp) (on (λ k. k.1) (then_cmp (on (λ k. k.0) (slice_cmp nat_cmp)) (on (λ k. k.1) id_cmp)))

pub key_total : IsTotalOrder key_cmp
key_total = then_total (on_total (λ k. k.0) ids_total) (on_total (λ k. k.1) (then_total (on_total (λ k. k.0) nat_list_cmp_total) (on_total (λ k. k.1) ids_total)))

abbrev pub key : Places → Spot → Key
key p s = (s.parent, (position_at p s.id, s.id))

spot_total : (p : Places) → IsTotalOrder (spot_cmp p)
spot_total p = on_total (key p) key_total

turned : (a b : Ordering) → match_ordering a true (is_lt b) false ≡ is_lt (ordering_then a b)
turned Less b = refl
turned Equal b = refl
turned Greater b = refl

third_ties : (a b c : Ordering) → ordering_then a (ordering_then b c) ≡ Equal → c ≡ Equal
third_ties Equal Equal c e = e
third_ties Equal Less c e = absurd (let f : Less ≡ Equal = e in cc)
third_ties Equal Greater c e = absurd (let f : Greater ≡ Equal = e in cc)
third_ties Less b c e = absurd (let f : Less ≡ Equal = e in cc)
third_ties Greater b c e = absurd (let f : Greater ≡ Equal = e in cc)

-- a spot with a place is before a cut where its key is less
pub before_is : (p : Places) (parent : ObjId) (pos : Pos) (id : ObjId) (s : Spot) (place : Place) → p s.id ≡ Some place → is_before p parent pos id s ≡ is_lt (key_cmp (key p s) (parent, (pos, id)))
before_is p parent pos id s place e =
    ap (λ (o : Option Place). match_ordering (id_cmp s.parent parent) true (is_lower (option_map (λ x. x.pos) o) s.id pos id) false) e
    ∙ turned (id_cmp s.parent parent) (ordering_then (slice_cmp nat_cmp place.pos pos) (id_cmp s.id id))
    ∙ ap (λ (o : Option Place). is_lt (ordering_then (id_cmp s.parent parent) (ordering_then (slice_cmp nat_cmp (option_map_or (λ x. x.pos) o []) pos) (id_cmp s.id id)))) (sym e)

-- an object of which this is the spot stands there
pub spot_is : (p : Places) (s : Spot) → spot_at p s.id ≡ Some s → (place : Place) × (p s.id ≡ Some place) × (new_spot s.id place ≡ s)
spot_is p s h =
    elim (p s.id) as (λ o. p s.id ≡ o → option_map (new_spot s.id) o ≡ Some s → (place : Place) × (p s.id ≡ Some place) × (new_spot s.id place ≡ s)) [
      | None ↦ λ e h. absurd (let f : None ≡ Some s = h in cc)
      | Some place ↦ λ e h. (place, e, let f : new_spot s.id place ≡ s = cc in f)
    ] refl h

module _ (p : Places) (spots : List Spot) (are : AreSpots p spots) where
  -- each of them stands where it says
  pub placed : (s : Spot) → Contains spots s → (place : Place) × (p s.id ≡ Some place) × (place.parent ≡ s.parent) × (new_spot s.id place ≡ s)
  placed s inside = let there = spot_is p s ((are.each s).0 inside) in (there.0, there.1, ap (λ (x : Spot). x.parent) there.2, there.2)

  inside_at : (k : ℕ) (d : Spot) → k < length spots → Contains spots (get_or spots k d)
  inside_at k d lt = (k, lt, get_or_default spots k (get_or spots k d) d lt)

  module _ (parent : ObjId) (pos : Pos) (id : ObjId) (i : ℕ) (cut : IsCut p parent pos id spots i) where
    rank : Spot → Ordering
    rank s = key_cmp (key p s) (parent, (pos, id))

    rise : IsNonDecreasingBy (λ s. ordering_index (rank s)) spots
    unfolding rank
    rise = searchable_from_sorted key_total (key p) spots (parent, (pos, id)) (λ k d low lt. ap is_lt (greater key_total (key p (get_or spots k d)) (key p (get_or spots (k + 1) d)) (Less-from_sorted (spot_cmp p) spots k (k + 1) d are.in_order (omega arith) lt)))

    known : (s : Spot) → Contains spots s → (b : Bool) → b ≡ is_before p parent pos id s → b ≡ is_lt (rank s)
    unfolding rank
    known s inside b e = let there = placed s inside in e ∙ before_is p parent pos id s there.0 there.1

    pub cut_below : AllWithin (λ s. key_cmp (key p s) (parent, (pos, id)) ≡ Less) spots 0 i
    unfolding rank
    cut_below = lower_before rank spots rise i cut.within (λ d lt. known (get_or spots (i - 1) d) (inside_at (i - 1) d (omega (arith, cut.within))) true (cut.before d lt))

    pub cut_above : AllWithin (λ s. is_lt (key_cmp (key p s) (parent, (pos, id))) ≡ false) spots i (length spots)
    unfolding rank
    cut_above = higher_after rank spots rise i cut.within (λ d lt. known (get_or spots i d) (inside_at i d lt) false (cut.after d lt))

-- ---- a spot that is added
same_spots : (p q : Places) (x y : Spot) → q x.id ≡ p x.id → q y.id ≡ p y.id → spot_cmp p x y ≡ Less → spot_cmp q x y ≡ Less
same_spots p q x y ex ey h =
    (λ t. ordering_then (id_cmp x.parent y.parent) (ordering_then (slice_cmp nat_cmp (option_map_or (λ (s : Place). s.pos) (ex t) []) (option_map_or (λ (s : Place). s.pos) (ey t) [])) (id_cmp x.id y.id))) ∙ h

pub key_at : (p : Places) (s : Spot) (place : Place) → p s.id ≡ Some place → key p s ≡ (s.parent, (place.pos, s.id))
key_at p s place e = ap (λ (o : Option Place). (s.parent, (option_map_or (λ (x : Place). x.pos) o [], s.id))) e

module _ (p q : Places) (spots : List Spot) (are : AreSpots p spots) (id : ObjId) (others : (x : ObjId) → x ≢ id → q x ≡ p x) where
  -- none of them is of an object that stands nowhere
  pub other_than : p id ≡ None → (s : Spot) → Contains spots s → s.id ≢ id
  other_than nowhere s inside same =
      let there = placed p spots are s inside in
      let f : None ≡ Some there.0 = sym nowhere ∙ ap p (sym same) ∙ there.1 in cc

  module _ (nowhere : p id ≡ None) (place : Place) (stands : q id ≡ Some place) (i : ℕ) (cut : IsCut p place.parent place.pos id spots i) where
    unchanged : (s : Spot) → Contains spots s → q s.id ≡ p s.id
    unchanged s inside = others s.id (other_than nowhere s inside)

    same_key : (s : Spot) → Contains spots s → key q s ≡ key p s
    same_key s inside = λ t. (s.parent, (option_map_or (λ (x : Place). x.pos) (unchanged s inside t) [], s.id))

    spot_key : key q (new_spot id place) ≡ (place.parent, (place.pos, id))
    spot_key = key_at q (new_spot id place) place stands

    comes_after : (s : Spot) → Contains spots s → is_lt (key_cmp (key p s) (place.parent, (place.pos, id))) ≡ false → key_cmp (place.parent, (place.pos, id)) (key p s) ≡ Less
    comes_after s inside not_less =
        elim (key_cmp (key p s) (place.parent, (place.pos, id))) as (λ r. key_cmp (key p s) (place.parent, (place.pos, id)) ≡ r → is_lt r ≡ false → key_cmp (place.parent, (place.pos, id)) (key p s) ≡ Less) [
          | Less ↦ λ e n. absurd (let f : true ≡ false = n in cc)
          | Equal ↦ λ e n. absurd (other_than nowhere s inside (exact_ids s.id id (third_ties (id_cmp s.parent place.parent) (slice_cmp nat_cmp (position_at p s.id) place.pos) (id_cmp s.id id) e)))
          | Greater ↦ λ e n. key_total.antisymm (place.parent, (place.pos, id)) (key p s) ∙ ap ordering_reverse e
        ] refl not_less

    pub spots_with : AreSpots q (insert spots i (new_spot id place))
    spots_with = record {
      in_order = sorted_insert (spot_cmp q) spots i (new_spot id place) cut.within
          (sorted_same (spot_cmp p) (spot_cmp q) (λ s. q s.id ≡ p s.id) (λ x y ex ey. same_spots p q x y ex ey) spots (all_from (λ s. q s.id ≡ p s.id) spots (λ k d low lt. unchanged (get_or spots k d) (inside_at p spots are k d lt))) are.in_order)
          (λ k d low lt.
          let inside = inside_at p spots are k d (omega (arith, cut.within)) in
          (λ t. key_cmp (same_key (get_or spots k d) inside t) (spot_key t)) ∙ cut_below p spots are place.parent place.pos id i cut k d low lt)
          (λ k d low lt.
          let inside = inside_at p spots are k d lt in
          (λ t. key_cmp (spot_key t) (same_key (get_or spots k d) inside t)) ∙ comes_after (get_or spots k d) inside (cut_above p spots are place.parent place.pos id i cut k d low lt));
      each = λ s. (
        λ h. has s (Contains-permutation (insert spots i (new_spot id place)) (new_spot id place ∷ spots) s (IsPermutation-sym (new_spot id place ∷ spots) (insert spots i (new_spot id place)) (IsPermutation-insert spots i (new_spot id place))) h),
        λ h. Contains-permutation (new_spot id place ∷ spots) (insert spots i (new_spot id place)) s (IsPermutation-insert spots i (new_spot id place)) (is_there s h),
      );
    }
      where
        has : (s : Spot) → Contains (new_spot id place ∷ spots) s → spot_at q s.id ≡ Some s
        has s (zero, lt, is) = subst (λ (s : Spot). spot_at q s.id ≡ Some s) is (ap (option_map (new_spot id)) stands)
        has s (suc k, lt, is) =
            let inside : Contains spots s = (k, omega (arith, lt), is) in
            ap (option_map (new_spot s.id)) (unchanged s inside) ∙ (are.each s).0 inside

        is_there : (s : Spot) → spot_at q s.id ≡ Some s → Contains (new_spot id place ∷ spots) s
        is_there s h = elim (same_or_differ s.id id) as (λ _. Contains (new_spot id place ∷ spots) s) [
          | inl same ↦
              let named : Some (new_spot id place) ≡ Some s = ap (option_map (new_spot id)) (sym stands) ∙ ap (spot_at q) (sym same) ∙ h in
              let first : new_spot id place ≡ s = cc in
              (0, omega arith, first)
          | inr differs ↦
              let old = (are.each s).1 (ap (option_map (new_spot s.id)) (sym (others s.id differs)) ∙ h) in
              (suc old.0, omega (arith, old.1), old.2)
        ]

  -- ---- a spot that is taken out
  module _ (gone : q id ≡ None) (i : ℕ) (x : Spot) (lt : i < length spots) (is : x ≡ get_or spots i x) (of_id : x.id ≡ id) where
    pub left_is : (s : Spot) → Contains (remove spots i) s → Contains spots s
    left_is s h =
        let moved = Contains-permutation (x ∷ remove spots i) spots s (IsPermutation-sym spots (x ∷ remove spots i) (IsPermutation-remove spots i x lt is)) (suc h.0, omega (arith, h.1), h.2) in moved

    pub left_other : (s : Spot) → Contains (remove spots i) s → s.id ≢ id
    left_other s h same =
        let apart = all_contained (λ y. y ≢ x) (remove spots i) (left_differs (spot_cmp p) (spot_total p) spots i x lt is are.in_order) s h in
        let there = (are.each s).0 (left_is s h) in
        let here = (are.each x).0 (i, lt, sym is) in
        let named : Some s ≡ Some x = sym there ∙ ap (spot_at p) (same ∙ sym of_id) ∙ here in
        let one : s ≡ x = cc in
        apart one

    pub spots_without : AreSpots q (remove spots i)
    spots_without = record {
      in_order = sorted_same (spot_cmp p) (spot_cmp q) (λ s. q s.id ≡ p s.id) (λ x y ex ey. same_spots p q x y ex ey) (remove spots i)
          (all_from (λ s. q s.id ≡ p s.id) (remove spots i) (λ k d low lk. others (get_or (remove spots i) k d).id (left_other (get_or (remove spots i) k d) (k, lk, get_or_default (remove spots i) k (get_or (remove spots i) k d) d lk))))
          (sorted_remove (spot_cmp p) spots i are.in_order);
      each = λ s. (
        λ h. ap (option_map (new_spot s.id)) (others s.id (left_other s h)) ∙ (are.each s).0 (left_is s h),
        λ h. elim (same_or_differ s.id id) as (λ _. Contains (remove spots i) s) [
          | inl same ↦ absurd (let f : None ≡ Some s = ap (option_map (new_spot id)) (sym gone) ∙ ap (spot_at q) (sym same) ∙ h in cc)
          | inr differs ↦
              let old = (are.each s).1 (ap (option_map (new_spot s.id)) (sym (others s.id differs)) ∙ h) in
              let moved = Contains-permutation spots (x ∷ remove spots i) s (IsPermutation-remove spots i x lt is) old in
              elim moved.0 as (λ k. k < length (x ∷ remove spots i) → get_or (x ∷ remove spots i) k s ≡ s → Contains (remove spots i) s) [
                | zero ↦ λ l e. absurd (differs (sym (ap (λ (y : Spot). y.id) e) ∙ of_id))
                | suc k ↦ λ l e. (k, omega arith, e)
              ] moved.1 moved.2
        ],
      );
    }

-- the spots of a document in which nothing moved
pub spots_same : (p q : Places) (spots : List Spot) → ((x : ObjId) → p x ≡ q x) → AreSpots p spots → AreSpots q spots
spots_same p q spots same are = subst (λ p. AreSpots p spots) (λ t x. same x t) are

-- an object with this parent stands somewhere
pub standing : (p : Places) (q parent : ObjId) → parent_at p q ≡ Some parent → (place : Place) × (p q ≡ Some place) × (place.parent ≡ parent)
standing p q parent h =
    elim (p q) as (λ o. p q ≡ o → option_map (λ (x : Place). x.parent) o ≡ Some parent → (place : Place) × (p q ≡ Some place) × (place.parent ≡ parent)) [
      | None ↦ λ e h. absurd (let f : None ≡ Some parent = h in cc)
      | Some place ↦ λ e h. (place, e, let f : place.parent ≡ parent = cc in f)
    ] refl h
