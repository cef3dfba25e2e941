-- The least position of a child greater than another one, as the walk through the spots finds it.
use Rattle.std.proofs.Common.{◌≡◌, ◌≢◌, inl, inr, ℕ, suc, ◌<◌, ◌≤◌, true, false, List, [], length, get_or, Option, Some, None, refl, sym, ap, subst, ◌∙◌, arith}
use Rattle.std.specs.List.{AllWithin, Contains}
use Rattle.std.specs.Option.{option_map, option_map_or}
use Rattle.std.specs.Cmp.Lexicographic.{slice_cmp, nat_list_cmp_total}
use Rattle.std.specs.Ordering.{is_lt, nat_cmp, ordering_index, ordering_then}
use Rattle.std.specs.declared.cmp.Ordering.{Ordering}
use Rattle.std.specs.declared.cmp.Ordering.TheVariants.{Less, Equal, Greater}
use Rattle.std.proofs.lemmas.Bool.{cases_lt}
use Rattle.std.proofs.lemmas.Cmp.{tied_itself}
use Rattle.std.proofs.lemmas.Map.Keys.{Less-from_sorted}
use Rattle.canvas_model.specs.declared.ObjId.{ObjId}
use Rattle.canvas_model.specs.Ids.{id_cmp, root}
use Rattle.canvas_model.specs.Document.{Doc, Place, Pos, place_of}
use Rattle.canvas_model.specs.Order.{IsLowEnd}
use Rattle.canvas_model.specs.Sibling.{IsNext, IsSibling}
use Rattle.canvas_doc.specs.declared.spots.Spot.{Spot}
use Rattle.canvas_doc.specs.Spots.{AreSpots, IsFirst, Places, new_spot, pos_at, position_at, spot_cmp}
use Rattle.canvas_doc.proofs.Maps.{exact_ids, ids_total}
use Rattle.canvas_doc.proofs.Standing.{root_least, some_is, stands_at}
use Rattle.canvas_doc.proofs.Spotted.{cut_below, cut_above}
use Rattle.canvas_doc.proofs.Walked.{start_below, start_above}

-- a key is less, or not, by its first part, then its second, then its third
apart_third : (a b c : Ordering) → ordering_then a (ordering_then b c) ≡ Less → a ≡ Equal → is_lt c ≡ false → b ≡ Less
apart_third Equal Less c l e n = refl
apart_third Equal Equal c l e n = absurd (let f : true ≡ false = sym (ap is_lt l) ∙ n in cc)
apart_third Equal Greater c l e n = absurd (let f : Greater ≡ Less = l in cc)
apart_third Less b c l e n = absurd (let f : Less ≡ Equal = e in cc)
apart_third Greater b c l e n = absurd (let f : Greater ≡ Equal = e in cc)

first_kept : (a b : Ordering) → is_lt (ordering_then a b) ≡ false → is_lt a ≡ false
first_kept Less b n = n
first_kept Equal b n = refl
first_kept Greater b n = refl

second_kept : (a b c : Ordering) → ordering_then a (ordering_then b c) ≡ Less → a ≡ Equal → b ≡ Greater → ⊥
second_kept Equal b Less l e g = absurd (let f : Greater ≡ Less = sym (ap (λ b. ordering_then b Less) g) ∙ l in cc)
second_kept Equal b Equal l e g = absurd (let f : Greater ≡ Less = sym (ap (λ b. ordering_then b Equal) g) ∙ l in cc)
second_kept Equal b Greater l e g = absurd (let f : Greater ≡ Less = sym (ap (λ b. ordering_then b Greater) g) ∙ l in cc)
second_kept Less b c l e g = let f : Less ≡ Equal = e in cc
second_kept Greater b c l e g = let f : Greater ≡ Equal = e in cc

-- what lies before an equal first part isn't greater
not_beyond : (a b : Ordering) → ordering_then a b ≡ Less → (a ≡ Greater → ⊥)
not_beyond Less b l g = let f : Less ≡ Greater = g in cc
not_beyond Equal b l g = let f : Equal ≡ Greater = g in cc
not_beyond Greater b l g = let f : Greater ≡ Less = l in cc

pub position_told : (o : Option Place) (pos : Pos) → Some pos ≡ option_map (λ (s : Place). s.pos) o → option_map_or (λ (s : Place). s.pos) o [] ≡ pos
position_told None pos e = absurd (let f : Some pos ≡ None = e in cc)
position_told (Some s) pos e = some_is s.pos pos (sym e)

position_is : (p : Places) (q : ObjId) (place : Place) → p q ≡ Some place → position_at p q ≡ place.pos
position_is p q place e = ap (λ (o : Option Place). option_map_or (λ (s : Place). s.pos) o []) e

module _ (d : Doc) (spots : List Spot) (parent : ObjId) (low : Option Pos) (except : ObjId) where
  -- no spot before the nth is of another child at a position greater than `low`
  abbrev pub Passed : ℕ → Type 0
  Passed n = (k : ℕ) (x : Spot) → k < n → k < length spots → (get_or spots k x).parent ≡ parent → (get_or spots k x).id ≢ except → IsLowEnd low (position_at (place_of d) (get_or spots k x).id) → ⊥

  -- no spot from the nth on is under a lesser parent
  abbrev pub From : ℕ → Type 0
  From n = (k : ℕ) (x : Spot) → n ≤ k → k < length spots → is_lt (id_cmp (get_or spots k x).parent parent) ≡ false

module _ (d : Doc) (spots : List Spot) (are : AreSpots (place_of d) spots) (parent : ObjId) (low : Option Pos) (except : ObjId) where
  -- one spot more
  pub passed_more : (n : ℕ) (s : Spot) → Passed d spots parent low except n → ((x : Spot) → get_or spots n x ≡ s) → (s.parent ≡ parent → s.id ≢ except → IsLowEnd low (position_at (place_of d) s.id) → ⊥) → Passed d spots parent low except (suc n)
  passed_more n s passed is here k x lt inside under other after =
      elim (cases_lt k n) as (λ _. ⊥) [
        | inl before ↦ passed k x before inside under other after
        | inr not_before ↦
            let same : k ≡ n = omega arith in
            let at : get_or spots k x ≡ s = ap (λ k. get_or spots k x) same ∙ is x in
            here (ap (λ (y : Spot). y.parent) (sym at) ∙ under) (λ e. other (ap (λ (y : Spot). y.id) at ∙ e)) (subst (λ (y : Spot). IsLowEnd low (position_at (place_of d) y.id)) at after)
      ]

  -- the spot of a sibling
  abbrev own_spot : ObjId → Pos → Spot
  own_spot q pos = new_spot q (record { parent = parent; pos = pos })

  sibling_there : (q : ObjId) (pos : Pos) → IsSibling d parent except q pos → Contains spots (own_spot q pos)
  sibling_there q pos sibling = (are.each (own_spot q pos)).1 (ap (option_map (new_spot q)) sibling.1)

  sibling_at : (q : ObjId) (pos : Pos) → IsSibling d parent except q pos → position_at (place_of d) q ≡ pos
  sibling_at q pos sibling = position_is (place_of d) q (record { parent = parent; pos = pos }) sibling.1

  -- a sibling greater than `low` isn't before the nth spot
  not_passed : (n : ℕ) → Passed d spots parent low except n → (q : ObjId) (pos : Pos) (sibling : IsSibling d parent except q pos) → IsLowEnd low pos → n ≤ (sibling_there q pos sibling).0
  not_passed n passed q pos sibling after =
      let there = sibling_there q pos sibling in
      elim (cases_lt there.0 n) as (λ _. n ≤ there.0) [
        | inl before ↦ absurd (passed there.0 (own_spot q pos) before there.1 (ap (λ (y : Spot). y.parent) there.2) (λ e. sibling.0 (sym (ap (λ (y : Spot). y.id) there.2) ∙ e))
            (subst (λ (y : Spot). IsLowEnd low (position_at (place_of d) y.id)) (sym there.2) (subst (IsLowEnd low) (sym (sibling_at q pos sibling)) after)))
        | inr later ↦ omega arith
      ]

  -- none is left
  pub none_next : (n : ℕ) → Passed d spots parent low except n → From d spots parent low except n → ((x : Spot) → n < length spots → (get_or spots n x).parent ≢ parent) → IsNext d parent except low None
  none_next n passed from ends q pos sibling after =
      let there = sibling_there q pos sibling in
      let beyond = not_passed n passed q pos sibling after in
      let s : Spot = own_spot q pos in
      let lt : n < length spots = omega (arith, beyond, there.1) in
      elim (cases_lt n there.0) as (λ _. ⊥) [
        | inr not_after ↦
            let same : n ≡ there.0 = omega (arith, beyond) in
            ends s lt (ap (λ k. (get_or spots k s).parent) same ∙ ap (λ (y : Spot). y.parent) there.2)
        | inl after_n ↦
            let x = get_or spots n s in
            let less = Less-from_sorted (spot_cmp (place_of d)) spots n there.0 s are.in_order after_n there.1 in
            let to_parent : id_cmp x.parent (get_or spots there.0 s).parent ≡ id_cmp x.parent parent = ap (λ (y : Spot). id_cmp x.parent y.parent) there.2 in
            let not_greater = not_beyond (id_cmp x.parent (get_or spots there.0 s).parent) _ less in
            apart_ids (id_cmp x.parent parent) (from n s (omega arith) lt) (λ e. ends s lt (exact_ids x.parent parent e)) (λ g. not_greater (to_parent ∙ g))
      ]
    where
      apart_ids : (r : Ordering) → is_lt r ≡ false → (r ≡ Equal → ⊥) → (r ≡ Greater → ⊥) → ⊥
      apart_ids Less n ne ng = let f : true ≡ false = n in cc
      apart_ids Equal n ne ng = ne refl
      apart_ids Greater n ne ng = ng refl

  -- this is the next one
  pub next_here : (n : ℕ) (s : Spot) (pos : Pos) → Passed d spots parent low except n → n < length spots → ((x : Spot) → get_or spots n x ≡ s) → s.parent ≡ parent → s.id ≢ except → Some pos ≡ pos_at (place_of d) s.id → IsLowEnd low pos → IsNext d parent except low (Some pos)
  next_here n s pos passed lt is under other at after = (
    (s.id, (other, stands)),
    after,
    λ q less_pos sibling less_after less.
        let there = sibling_there q less_pos sibling in
        let beyond = not_passed n passed q less_pos sibling less_after in
        let y : Spot = own_spot q less_pos in
        elim (cases_lt n there.0) as (λ _. ⊥) [
          | inr not_after ↦
              let same : n ≡ there.0 = omega (arith, beyond) in
              let own : s ≡ y = sym (is y) ∙ ap (λ k. get_or spots k y) same ∙ there.2 in
              let one : pos ≡ less_pos = sym here ∙ ap (λ (z : Spot). position_at (place_of d) z.id) own ∙ sibling_at q less_pos sibling in
              let tied = tied_itself nat_list_cmp_total pos in
              let f : Less ≡ Equal = sym less ∙ ap (λ z. slice_cmp nat_cmp z pos) (sym one) ∙ tied in cc
          | inl after_n ↦
              let order = Less-from_sorted (spot_cmp (place_of d)) spots n there.0 y are.in_order after_n there.1 in
              let sorted : spot_cmp (place_of d) s y ≡ Less = (λ t. spot_cmp (place_of d) (sym (is y) t) (sym there.2 t)) ∙ order in
              let parents : id_cmp s.parent parent ≡ Equal = ap (λ z. id_cmp z parent) under ∙ tied_itself ids_total parent in
              let turned : slice_cmp nat_cmp (position_at (place_of d) s.id) (position_at (place_of d) q) ≡ Greater =
              (λ t. slice_cmp nat_cmp (here t) (sibling_at q less_pos sibling t)) ∙ nat_list_cmp_total.antisymm pos less_pos ∙ ap Rattle.std.specs.Ordering.ordering_reverse less in
              second_kept (id_cmp s.parent parent) (slice_cmp nat_cmp (position_at (place_of d) s.id) (position_at (place_of d) q)) (id_cmp s.id q) sorted parents turned
        ],
  )
    where
      inside : Contains spots s
      inside = (n, lt, is s)

      stands : place_of d s.id ≡ Some (record { parent = parent; pos = pos })
      stands = stands_at (place_of d) spots are s parent pos inside under (sym at)

      here : position_at (place_of d) s.id ≡ pos
      here = position_is (place_of d) s.id (record { parent = parent; pos = pos }) stands

-- where the walk begins
pub passed_first : (d : Doc) (spots : List Spot) (are : AreSpots (place_of d) spots) (parent : ObjId) (low : Option Pos) (except : ObjId) (i : ℕ) → IsFirst (place_of d) parent low spots i → Passed d spots parent low except i × From d spots parent low except i
passed_first d spots are parent None except i first = (
  (λ k x lt inside under other after.
      let less = start_below d spots are parent i first k x (omega arith) lt in
      let tied : id_cmp (get_or spots k x).parent parent ≡ Equal = ap (λ z. id_cmp z parent) under ∙ tied_itself ids_total parent in
      let f : Less ≡ Equal = sym less ∙ tied in cc),
  (λ k x low lt. start_above d spots are parent i first k x low lt),
)
passed_first d spots are parent (Some low) except i first = (
  (λ k x lt inside under other after.
      let less = cut_below (place_of d) spots are parent low root i first k x (omega arith) lt in
      let y = get_or spots k x in
      let tied : id_cmp y.parent parent ≡ Equal = ap (λ z. id_cmp z parent) under ∙ tied_itself ids_total parent in
      let before : slice_cmp nat_cmp (position_at (place_of d) y.id) low ≡ Less = apart_third (id_cmp y.parent parent) (slice_cmp nat_cmp (position_at (place_of d) y.id) low) (id_cmp y.id root) less tied (root_least y.id) in
      let turned = nat_list_cmp_total.antisymm low (position_at (place_of d) y.id) ∙ ap Rattle.std.specs.Ordering.ordering_reverse before in
      let f : Less ≡ Greater = sym after ∙ turned in cc),
  (λ k x from lt. first_kept (id_cmp (get_or spots k x).parent parent) _ (cut_above (place_of d) spots are parent low root i first k x from lt)),
)
