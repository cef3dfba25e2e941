-- The children of an object, as they are walked through the spots.
use Rattle.std.specs.Prelude.{◌↔◌, IsTrue}
use Rattle.std.proofs.Common.{◌≡◌, ◌≢◌, inl, inr, ℕ, suc, ◌+◌, ◌-◌, ◌<◌, ◌≤◌, Bool, true, false, nat_eq, ◌&&◌, List, [], ◌∷◌, ◌++◌, length, get_or, Some, refl, sym, ap, subst, ◌∙◌, arith}
use Rattle.std.specs.List.{AllWithin, Contains}
use Rattle.std.specs.List.Sorted.{IsNonDecreasingBy}
use Rattle.std.specs.Option.{option_map}
use Rattle.std.specs.Cmp.{IsTotalOrder}
use Rattle.std.specs.Cmp.Lexicographic.{nat_list_cmp_total}
use Rattle.std.specs.Ordering.{is_lt, ordering_index, ordering_reverse, ordering_then}
use Rattle.std.specs.declared.cmp.Ordering.{Ordering}
use Rattle.std.specs.declared.cmp.Ordering.TheVariants.{Less, Equal, Greater}
use Rattle.std.proofs.lemmas.Bool.{cases_lt}
use Rattle.std.proofs.lemmas.Cmp.{on_total, then_total, tied_itself}
use Rattle.std.proofs.lemmas.List.{get_or_default, get_or_push, get_or_append_left, length_push}
use Rattle.std.proofs.lemmas.List.Sorted.{searchable_from_sorted}
use Rattle.std.proofs.lemmas.Map.Keys.{Less-from_sorted, sorted_from_all_adjacent}
use Rattle.canvas_model.specs.declared.ObjId.{ObjId}
use Rattle.canvas_model.specs.Ids.{id_cmp, root}
use Rattle.canvas_model.specs.Document.{Doc, Place, place_of}
use Rattle.canvas_model.specs.Children.{AreChildren, child_cmp, parent_of, position_of}
use Rattle.canvas_doc.specs.declared.spots.Spot.{Spot}
use Rattle.canvas_doc.specs.Spots.{AreSpots, IsStart, new_spot, parent_at, spot_cmp}
use Rattle.canvas_doc.proofs.Maps.{exact_ids, ids_total}
use Rattle.canvas_doc.proofs.Edges.{highest, is_more}
use Rattle.canvas_doc.proofs.Spotted.{lower_before, higher_after, placed, standing}
use Rattle.canvas_doc.proofs.Told.{differing, told_one}

not_falling : (a b : ObjId) (c : Ordering) → ordering_then (id_cmp a b) c ≡ Less → is_lt (id_cmp b a) ≡ false
not_falling a b c e =
    elim (id_cmp a b) as (λ r. id_cmp a b ≡ r → ordering_then r c ≡ Less → is_lt (id_cmp b a) ≡ false) [
      | Less ↦ λ is e. ap is_lt (ids_total.antisymm b a ∙ ap ordering_reverse is)
      | Equal ↦ λ is e. ap is_lt (ids_total.antisymm b a ∙ ap ordering_reverse is)
      | Greater ↦ λ is e. absurd (let f : Greater ≡ Less = e in cc)
    ] refl e

second_less : (a b : Ordering) → a ≡ Equal → ordering_then a b ≡ Less → b ≡ Less
second_less Less b e l = absurd (let f : Less ≡ Equal = e in cc)
second_less Equal b e l = l
second_less Greater b e l = absurd (let f : Greater ≡ Equal = e in cc)

-- a spot to read lists with
blank_spot : Spot
blank_spot = new_spot root (record { parent = root; pos = [] })

child_total : (d : Doc) → IsTotalOrder (child_cmp d)
child_total d = then_total (on_total (position_of d) nat_list_cmp_total) ids_total

-- the ids of the spots from `first` up to n
pub record AreIds (spots : List Spot) (first n : ℕ) (ids : List ObjId) : Type 0 where
  pub long : first + length ids ≡ n
  pub each : (k : ℕ) (r : ObjId) (s : Spot) → k < length ids → get_or ids k r ≡ (get_or spots (first + k) s).id

pub ids_more : (spots : List Spot) (first n : ℕ) (ids more : List ObjId) (x : Spot) → AreIds spots first n ids → ((s : Spot) → get_or spots n s ≡ x) → more ≡ ids ++ x.id ∷ [] → AreIds spots first (suc n) more
ids_more spots first n ids more x are at new =
    let size : length more ≡ length ids + 1 = ap length new ∙ length_push ids x.id in
    record {
      long = omega (arith, are.long, size);
      each = λ k r s lt. elim (cases_lt k (length ids)) as (λ _. get_or more k r ≡ (get_or spots (first + k) s).id) [
        | inl before ↦ ap (λ l. get_or l k r) new ∙ get_or_append_left ids (x.id ∷ []) r k before ∙ are.each k r s before
        | inr not_before ↦
            let last : length ids ≡ k = omega (arith, size) in
            let there : n ≡ first + k = omega (arith, are.long, last) in
            ap (λ l. get_or l k r) new ∙ get_or_push ids x.id r k last ∙ sym (ap (λ (y : Spot). y.id) (at s)) ∙ ap (λ k. (get_or spots k s).id) there
      ];
    }

module _ (d : Doc) (spots : List Spot) (are : AreSpots (place_of d) spots) (id : ObjId) (first : ℕ) (start : IsStart id spots first) where
  pub start_rises : IsNonDecreasingBy (λ (s : Spot). ordering_index (id_cmp s.parent id)) spots
  start_rises = searchable_from_sorted ids_total (λ (s : Spot). s.parent) spots id (λ k e low lt. not_falling (get_or spots k e).parent (get_or spots (k + 1) e).parent _ (Less-from_sorted (spot_cmp (place_of d)) spots k (k + 1) e are.in_order (omega arith) lt))

  -- the spots before the start are under lesser parents, and none after it is
  pub start_below : AllWithin (λ (s : Spot). id_cmp s.parent id ≡ Less) spots 0 first
  start_below = lower_before (λ (s : Spot). id_cmp s.parent id) spots start_rises first start.within (λ e lt. start.before e lt)

  pub start_above : AllWithin (λ (s : Spot). is_lt (id_cmp s.parent id) ≡ false) spots first (length spots)
  start_above = higher_after (λ (s : Spot). id_cmp s.parent id) spots start_rises first start.within (λ e lt. start.after e lt)

module _ (d : Doc) (spots : List Spot) (are : AreSpots (place_of d) spots) (id : ObjId) (first n : ℕ) (start : IsStart id spots first) (from : first ≤ n) (within : n ≤ length spots)
    (passed : AllWithin (λ s. s.parent ≡ id) spots first n) (ends : (s : Spot) → n < length spots → (get_or spots n s).parent ≢ id) (ids : List ObjId) (listed : AreIds spots first n ids) where
  abbrev rank : Spot → Ordering
  rank s = id_cmp s.parent id

  rise : IsNonDecreasingBy (λ s. ordering_index (rank s)) spots
  rise = start_rises d spots are id first start

  low : AllWithin (λ s. rank s ≡ Less) spots 0 first
  low = start_below d spots are id first start

  high : AllWithin (λ s. is_lt (rank s) ≡ false) spots first (length spots)
  high = start_above d spots are id first start

  own : (s : Spot) → s.parent ≡ id → rank s ≡ Equal
  own s e = subst (λ x. id_cmp x id ≡ Equal) (sym e) (tied_itself ids_total id)

  -- a child's spot is among those
  among : (s : Spot) → s.parent ≡ id → (there : Contains spots s) → (first ≤ there.0) × (there.0 < n)
  among s under there =
      let equal : rank (get_or spots there.0 s) ≡ Equal = own (get_or spots there.0 s) (ap (λ (x : Spot). x.parent) there.2 ∙ under) in (
        elim (cases_lt there.0 first) as (λ _. first ≤ there.0) [
          | inl before ↦ absurd (let less = low there.0 s (omega arith) before in let f : Less ≡ Equal = sym less ∙ equal in cc)
          | inr later ↦ omega arith
        ],
        elim (cases_lt there.0 n) as (λ _. there.0 < n) [
          | inl before ↦ before
          | inr later ↦ absurd (
              let lt : n < length spots = omega (arith, there.1) in
              let more : rank (get_or spots n s) ≡ Greater = is_more (rank (get_or spots n s)) (sym (high n s from lt)) (λ tied. ends s lt (exact_ids (get_or spots n s).parent id tied)) in
              let up = rise n there.0 s (omega arith) there.1 in
              let two : ordering_index (rank (get_or spots n s)) ≡ 2 = ap ordering_index more in
              let top = highest (rank (get_or spots there.0 s)) (omega (arith, up, two)) in
              let f : Greater ≡ Equal = sym top ∙ equal in cc)
        ],
      )

  pub children_are : AreChildren d id ids
  children_are = record {
    in_order = sorted_from_all_adjacent (child_total d) ids root (λ k lt.
        let s : Spot = blank_spot in
        let x = get_or spots (first + k) s in
        let y = get_or spots (first + (k + 1)) s in
        let next : first + (k + 1) ≡ first + k + 1 = omega arith in
        let less = Less-from_sorted (spot_cmp (place_of d)) spots (first + k) (first + (k + 1)) s are.in_order (omega arith) (omega (arith, listed.long)) in
        let xp : x.parent ≡ id = passed (first + k) s (omega arith) (omega (arith, listed.long)) in
        let yp : y.parent ≡ id = passed (first + (k + 1)) s (omega arith) (omega (arith, listed.long)) in
        let tied : id_cmp x.parent y.parent ≡ Equal = (λ t. id_cmp (xp t) (yp t)) ∙ tied_itself ids_total id in
        let xi = listed.each k root s (omega arith) in
        let yi = listed.each (k + 1) root s lt in
        (λ t. child_cmp d (xi t) (yi t)) ∙ second_less (id_cmp x.parent y.parent) (child_cmp d x.id y.id) tied less);
    each = λ q. (
      (λ inside.
          let s : Spot = blank_spot in
          let lt : first + inside.0 < length spots = omega (arith, listed.long, inside.1) in
          let x = get_or spots (first + inside.0) s in
          let xp : x.parent ≡ id = passed (first + inside.0) s (omega arith) (omega (arith, listed.long, inside.1)) in
          let xi : x.id ≡ q = sym (listed.each inside.0 q s inside.1) ∙ inside.2 in
          let there = placed (place_of d) spots are x (first + inside.0, lt, get_or_default spots (first + inside.0) x s lt) in
          ap (parent_at (place_of d)) (sym xi) ∙ ap (option_map (λ (y : Place). y.parent)) there.1 ∙ ap Some (there.2 ∙ xp)),
      (λ child.
          let stands = standing (place_of d) q id child in
          let s : Spot = new_spot q stands.0 in
          let there = (are.each s).1 (ap (option_map (new_spot q)) stands.1) in
          let place = among s stands.2 there in
          let k = there.0 - first in
          let at : first + k ≡ there.0 = omega (arith, place.0) in
          let lk : k < length ids = omega (arith, listed.long, place.0, place.1) in
          (k, lk, listed.each k q s lk ∙ ap (λ j. (get_or spots j s).id) at ∙ ap (λ (x : Spot). x.id) there.2)),
    );
  }

-- no spot is under the parent where the first that isn't under a lesser one is under another
pub none_under : (d : Doc) (spots : List Spot) → AreSpots (place_of d) spots → (id : ObjId) (first : ℕ) → IsStart id spots first → ((s : Spot) → first < length spots → (get_or spots first s).parent ≢ id)
    → (q : ObjId) → parent_of d q ≡ Some id → ⊥
none_under d spots are id first start other q child =
    let listed : AreIds spots first first [] = record { long = omega arith; each = λ k r s lt. absurd (omega arith) } in
    let children = children_are d spots are id first first start (omega arith) start.within (λ k e low lt. absurd (omega arith)) other [] listed in
    let inside = ((children.each q).1) child in
    omega (arith, inside.1)

-- one is, where that is under it
pub one_under : (d : Doc) (spots : List Spot) → AreSpots (place_of d) spots → (first : ℕ) (x : Spot) → first < length spots → ((s : Spot) → get_or spots first s ≡ x) → (q : ObjId) × (parent_of d q ≡ Some x.parent)
one_under d spots are first x lt at =
    let there = placed (place_of d) spots are x (first, lt, at x) in
    (x.id, ap (option_map (λ (y : Place). y.parent)) there.1 ∙ ap Some there.2)

-- whether one is, told from the first that isn't under a lesser one
pub any_is : (d : Doc) (spots : List Spot) → AreSpots (place_of d) spots → (id : ObjId) (first : ℕ) → IsStart id spots first → (x : Spot) → first < length spots → ((s : Spot) → get_or spots first s ≡ x)
    → (told : Bool) → told ≡ (nat_eq x.parent.client id.client && nat_eq x.parent.counter id.counter) → IsTrue told ↔ ((q : ObjId) × (parent_of d q ≡ Some id))
any_is d spots are id first start x lt at told is = by told refl
  where
    by : (b : Bool) → told ≡ b → IsTrue told ↔ ((q : ObjId) × (parent_of d q ≡ Some id))
    by true told_so =
        let same : x.parent ≡ id = told_one x.parent id told is told_so in
        let one = one_under d spots are first x lt at in
        ((λ t. (one.0, one.1 ∙ ap Some same)), (λ child. told_so))
    by false not_so =
        let other = none_under d spots are id first start (λ s less same. differing x.parent id told is not_so (ap (λ (y : Spot). y.parent) (sym (at s)) ∙ same)) in
        ((λ t. absurd (let f : false ≡ true = sym not_so ∙ t in cc f)), (λ child. absurd (other child.0 child.1)))
