-- Which objects stand where, as the walk through the spots from a cut finds them.
use Rattle.std.proofs.Common.{◌≡◌, ◌≢◌, inl, inr, ℕ, suc, zero, ◌<◌, ◌≤◌, true, false, List, [], ◌∷◌, length, get_or, drop, Option, Some, refl, sym, ap, subst, ◌∙◌, arith}
use Rattle.std.specs.List.{AllWithin, Contains}
use Rattle.std.specs.Option.{option_map, option_map_or}
use Rattle.std.specs.FinMap.{nat_cmp-IsAntisymmetric, slice_cmp-IsAntisymmetric}
use Rattle.std.specs.Cmp.Lexicographic.{slice_cmp, nat_list_cmp_total}
use Rattle.std.proofs.lemmas.Cmp.{tied_itself}
use Rattle.std.specs.Cmp.{nat_cmp_is}
use Rattle.std.specs.Ordering.{is_lt, nat_cmp, ordering_then}
use Rattle.std.specs.declared.cmp.Ordering.{Ordering}
use Rattle.std.specs.declared.cmp.Ordering.TheVariants.{Less, Equal, Greater}
use Rattle.std.proofs.lemmas.Bool.{cases_lt}
use Rattle.std.proofs.lemmas.List.{get_or_default}
use Rattle.std.proofs.lemmas.Map.Keys.{Less-from_sorted}
use Rattle.canvas_model.specs.declared.ObjId.{ObjId}
use Rattle.canvas_model.specs.Ids.{id_cmp, root}
use Rattle.canvas_model.specs.Document.{Place, Pos}
use Rattle.canvas_doc.specs.declared.spots.Spot.{Spot}
use Rattle.canvas_doc.specs.Spots.{AreSpots, IsCut, Places, new_spot, pos_at, position_at, spot_cmp}
use Rattle.canvas_doc.proofs.Maps.{exact_ids, ids_total}
use Rattle.canvas_doc.proofs.Spotted.{cut_below, cut_above, key, key_at, key_cmp, placed}

pub some_is : {X : Type 0} (x y : X) → Some x ≡ Some y → x ≡ y
some_is x y e = cc

above_zero : (n : ℕ) → nat_cmp (suc n) 0 ≡ Greater
above_zero n = sym (nat_cmp_is (suc n) 0 Greater (omega arith))

zero_least : (n : ℕ) → is_lt (nat_cmp n 0) ≡ false
zero_least zero = refl
zero_least (suc n) = ap is_lt (above_zero n)

pub root_least : (q : ObjId) → is_lt (id_cmp q root) ≡ false
root_least q = go q.client q.counter
  where
    go : (a b : ℕ) → is_lt (ordering_then (nat_cmp a 0) (nat_cmp b 0)) ≡ false
    go zero b = zero_least b
    go (suc a) b = ap (λ r. is_lt (ordering_then r (nat_cmp b 0))) (above_zero a)

then_third : (a b c : Ordering) → a ≡ Equal → b ≡ Equal → ordering_then a (ordering_then b c) ≡ Less → c ≡ Less
then_third Equal Equal c ea eb l = l
then_third Less b c ea eb l = absurd (let f : Less ≡ Equal = ea in cc)
then_third Greater b c ea eb l = absurd (let f : Greater ≡ Equal = ea in cc)
then_third Equal Less c ea eb l = absurd (let f : Less ≡ Equal = eb in cc)
then_third Equal Greater c ea eb l = absurd (let f : Greater ≡ Equal = eb in cc)

-- what lies between the least and another key of one parent and position is of that parent and position
between : (a b c : Ordering) → ordering_then a (ordering_then b c) ≡ Less → (e : Ordering) → is_lt (ordering_then a (ordering_then b e)) ≡ false → (a ≡ Equal) × (b ≡ Equal)
between Less b c l e n = absurd (let f : true ≡ false = n in cc)
between Greater b c l e n = absurd (let f : Greater ≡ Less = l in cc)
between Equal Less c l e n = absurd (let f : true ≡ false = n in cc)
between Equal Greater c l e n = absurd (let f : Greater ≡ Less = l in cc)
between Equal Equal c l e n = (refl, refl)

pub rest_step : {X : Type 0} (xs rest more : List X) (n : ℕ) (x : X) → rest ≡ drop n xs → rest ≡ x ∷ more → (n < length xs) × ((d : X) → get_or xs n d ≡ x) × (more ≡ drop (suc n) xs)
rest_step [] rest more zero x at is = absurd (let f : [] ≡ x ∷ more = sym at ∙ is in cc)
rest_step [] rest more (suc n) x at is = absurd (let f : [] ≡ x ∷ more = sym at ∙ is in cc)
rest_step (y ∷ xs) rest more zero x at is =
    let both : y ∷ xs ≡ x ∷ more = sym at ∙ is in
    let first : y ≡ x = cc in
    let others : xs ≡ more = cc in
    (omega arith, λ d. first, sym others)
rest_step (y ∷ xs) rest more (suc n) x at is = let h = rest_step xs rest more n x at is in (omega (arith, h.0), h.1, h.2)

pub rest_done : {X : Type 0} (xs rest : List X) (n : ℕ) → rest ≡ drop n xs → rest ≡ [] → length xs ≤ n
rest_done [] rest n at is = omega arith
rest_done (y ∷ xs) rest zero at is = absurd (let f : y ∷ xs ≡ [] = sym at ∙ is in cc)
rest_done (y ∷ xs) rest (suc n) at is = let h = rest_done xs rest n at is in omega (arith, h)

module _ (p : Places) (spots : List Spot) (are : AreSpots p spots) where
  -- a child's spot
  spot_there : (q : ObjId) (s : Place) → p q ≡ Some s → Contains spots (new_spot q s)
  spot_there q s stands = (are.each (new_spot q s)).1 (ap (option_map (new_spot q)) stands)

  -- a spot at this position is of an object that stands there
  pub stands_at : (s : Spot) (parent : ObjId) (pos : Pos) → Contains spots s → s.parent ≡ parent → pos_at p s.id ≡ Some pos → p s.id ≡ Some (record { parent = parent; pos = pos })
  stands_at s parent pos inside named at =
      let there = placed p spots are s inside in
      let same : Some there.0.pos ≡ Some pos = sym (ap (option_map (λ x. x.pos)) there.1) ∙ at in
      let pos_is : there.0.pos ≡ pos = cc in
      let parent_is : there.0.parent ≡ parent = there.2 ∙ named in
      there.1 ∙ (λ t. Some (record { parent = parent_is t; pos = pos_is t }))

  module _ (parent : ObjId) (pos : Pos) (except : ObjId) (first n : ℕ) (cut : IsCut p parent pos root spots first) (from : first ≤ n) (passed : AllWithin (λ s. s.id ≡ except) spots first n) where
    -- none stands there, where the next spot is at another place
    pub none_stands : ((d : Spot) → n < length spots → (get_or spots n d).parent ≡ parent → pos_at p (get_or spots n d).id ≡ Some pos → ⊥) → (q : ObjId) → q ≢ except → p q ≡ Some (record { parent = parent; pos = pos }) → ⊥
    none_stands other q ne stands =
        let s : Place = record { parent = parent; pos = pos } in
        let own_spot : Spot = new_spot q s in
        let there = spot_there q s stands in
        let own : key p own_spot ≡ (parent, (pos, q)) = key_at p own_spot s stands in
        let own_at : key p (get_or spots there.0 own_spot) ≡ (parent, (pos, q)) = ap (key p) there.2 ∙ own in
        elim (cases_lt there.0 first) as (λ _. ⊥) [
          | inl before ↦
              let less : key_cmp (parent, (pos, q)) (parent, (pos, root)) ≡ Less = subst (λ k. key_cmp k (parent, (pos, root)) ≡ Less) own_at (cut_below p spots are parent pos root first cut there.0 own_spot (omega arith) before) in
              let ids : id_cmp q root ≡ Less = then_third (id_cmp parent parent) (slice_cmp nat_cmp pos pos) (id_cmp q root) (tied_itself ids_total parent) (tied_itself nat_list_cmp_total pos) less in
              let f : true ≡ false = sym (ap is_lt ids) ∙ root_least q in cc
          | inr later ↦ elim (cases_lt there.0 n) as (λ _. ⊥) [
            | inl within ↦ ne (sym (ap (λ (x : Spot). x.id) there.2) ∙ passed there.0 own_spot (omega arith) within)
            | inr beyond ↦ elim (cases_lt n there.0) as (λ _. ⊥) [
              | inr not_after ↦
                  let same : there.0 ≡ n = omega arith in
                  let here : get_or spots n own_spot ≡ own_spot = ap (λ k. get_or spots k own_spot) (sym same) ∙ there.2 in
                  other own_spot (omega (arith, there.1)) (ap (λ (x : Spot). x.parent) here) (ap (λ (x : Spot). pos_at p x.id) here ∙ ap (option_map (λ x. x.pos)) stands)
              | inl after ↦
                  let d : Spot = own_spot in
                  let less : key_cmp (key p (get_or spots n d)) (parent, (pos, q)) ≡ Less = subst (λ k. key_cmp (key p (get_or spots n own_spot)) k ≡ Less) own_at (Less-from_sorted (spot_cmp p) spots n there.0 d are.in_order after there.1) in
                  let not_less = cut_above p spots are parent pos root first cut n d from (omega (arith, there.1)) in
                  let x = get_or spots n d in
                  let eqs = between (id_cmp x.parent parent) (slice_cmp nat_cmp (position_at p x.id) pos) (id_cmp x.id q) less (id_cmp x.id root) not_less in
                  let lt : n < length spots = omega (arith, there.1) in
                  let inside : Contains spots x = (n, lt, get_or_default spots n x d lt) in
                  let placed_x = placed p spots are x inside in
                  let pos_is : position_at p x.id ≡ pos = slice_cmp-IsAntisymmetric nat_cmp-IsAntisymmetric (position_at p x.id) pos eqs.1 in
                  let pos_eq : placed_x.0.pos ≡ pos = sym (ap (λ (o : Option Place). option_map_or (λ (s : Place). s.pos) o []) placed_x.1) ∙ pos_is in
                  other d lt (exact_ids x.parent parent eqs.0) (ap (option_map (λ (s : Place). s.pos)) placed_x.1 ∙ ap Some pos_eq)
            ]
          ]
        ]

pub pass_more : {X : Type 0} (P : X → Type 0) (xs : List X) (low n : ℕ) (x : X) → AllWithin P xs low n → ((d : X) → get_or xs n d ≡ x) → P x → AllWithin P xs low (suc n)
pass_more P xs low n x passed is here k d le lt =
    elim (cases_lt k n) as (λ _. P (get_or xs k d)) [
      | inl before ↦ passed k d le before
      | inr not_before ↦ let same : n ≡ k = omega arith in subst P (sym (is d) ∙ ap (λ k. get_or xs k d) same) here
    ]
