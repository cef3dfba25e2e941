-- The last child of a parent.
use Rattle.std.proofs.Common.{◌≡◌, ℕ, suc, ◌≤◌, ◌<◌, List, length, get_or, Some, None, refl, sym, ap, subst, ◌∙◌, arith, inl, inr}
use Rattle.std.proofs.lemmas.Bool.{cases_lt, cases_order}
use Rattle.std.proofs.lemmas.Map.Keys.{Less-from_sorted}
use Rattle.std.specs.List.{Contains}
use Rattle.std.specs.Option.{option_map}
use Rattle.std.specs.Ordering.{nat_cmp, ordering_reverse, ordering_then}
use Rattle.std.specs.Cmp.Lexicographic.{slice_cmp, nat_list_cmp_total}
use Rattle.std.specs.declared.cmp.Ordering.{Ordering}
use Rattle.std.specs.declared.cmp.Ordering.TheVariants.{Less, Equal, Greater}
use Rattle.canvas_model.specs.declared.ObjId.{ObjId}
use Rattle.canvas_model.specs.Ids.{id_cmp}
use Rattle.canvas_model.specs.Document.{Doc, Place, Pos, place_of}
use Rattle.canvas_model.specs.Order.{IsBefore}
use Rattle.canvas_model.specs.Sibling.{IsSibling}
use Rattle.canvas_model.specs.Children.{AreChildren, child_cmp, position_of}
use Rattle.canvas_client.specs.Ends.{IsLast}

-- what is less isn't greater
not_greater : (r t : Ordering) → ordering_then r t ≡ Less → r ≡ Greater → ⊥
not_greater Less t is g = let f : Less ≡ Greater = g in cc
not_greater Equal t is g = let f : Equal ≡ Greater = g in cc
not_greater Greater t is g = let f : Greater ≡ Less = is in cc

-- no position is before itself
before_itself : (p : Pos) → IsBefore p p → ⊥
before_itself p less =
    let turned : slice_cmp nat_cmp p p ≡ Greater = nat_list_cmp_total.antisymm p p ∙ ap ordering_reverse less in
    let f : Less ≡ Greater = sym less ∙ turned in cc

module _ (d : Doc) (parent except : ObjId) (ids : List ObjId) (are : AreChildren d parent ids) where
  -- no child from the n-th on is counted
  abbrev pub Rest : ℕ → Type 0
  Rest n = (k : ℕ) (x : ObjId) → n ≤ k → k < length ids → (pos : Pos) → IsSibling d parent except (get_or ids k x) pos → ⊥

  among : (q : ObjId) (pos : Pos) → IsSibling d parent except q pos → Contains ids q
  among q pos s = (are.each q).1 (ap (option_map (λ (p : Place). p.parent)) s.1)

  -- so none of those is the place of one that is
  not_rest : (n : ℕ) → Rest n → (q : ObjId) (pos : Pos) (s : IsSibling d parent except q pos) → n ≤ (among q pos s).0 → ⊥
  not_rest n rest q pos s le =
      let there = among q pos s in
      rest there.0 q le there.1 pos (subst (λ x. IsSibling d parent except x pos) (sym there.2) s)

  -- none is left
  pub last_none : Rest 0 → IsLast d parent except None
  last_none rest q other s = not_rest 0 rest q other s (omega arith)

  -- the one before those is the last
  pub last_here : (n : ℕ) (id : ObjId) (pos : Pos) → Rest (suc n) → n < length ids → ((x : ObjId) → get_or ids n x ≡ id) → IsSibling d parent except id pos → IsLast d parent except (Some pos)
  last_here n id pos rest lt is own = ((id, own), λ q other s before. greatest q other s before)
    where
      position_is : (x : ObjId) (p : Pos) → place_of d x ≡ Some (record { parent = parent; pos = p }) → position_of d x ≡ p
      position_is x p e = rw e refl

      greatest : (q : ObjId) (other : Pos) → IsSibling d parent except q other → IsBefore pos other → ⊥
      greatest q other s before =
          let there = among q other s in
          elim (cases_order there.0 n) as (λ _. ⊥) [
            | inl same ↦
                let one : q ≡ id = sym there.2 ∙ ap (λ k. get_or ids k q) same ∙ is q in
                let both : Some (record { parent = parent; pos = other }) ≡ Some (record { parent = parent; pos = pos }) = sym s.1 ∙ ap (place_of d) one ∙ own.1 in
                let equal : record { parent = parent; pos = other } ≡ record { parent = parent; pos = pos } = cc in
                before_itself pos (subst (IsBefore pos) (ap (λ (p : Place). p.pos) equal) before)
            | inr (inl less) ↦
                let order = Less-from_sorted (child_cmp d) ids there.0 n q are.in_order less lt in
                let sorted : child_cmp d q id ≡ Less = (λ t. child_cmp d (sym there.2 t) (sym (is q) t)) ∙ order in
                let turned : slice_cmp nat_cmp (position_of d q) (position_of d id) ≡ Greater =
                (λ t. slice_cmp nat_cmp (position_is q other s.1 t) (position_is id pos own.1 t)) ∙ nat_list_cmp_total.antisymm other pos ∙ ap ordering_reverse before in
                not_greater (slice_cmp nat_cmp (position_of d q) (position_of d id)) (id_cmp q id) sorted turned
            | inr (inr more) ↦ not_rest (suc n) rest q other s (omega arith)
          ]

  -- one more that isn't counted
  pub rest_more : (n : ℕ) (id : ObjId) → Rest (suc n) → ((x : ObjId) → get_or ids n x ≡ id) → ((pos : Pos) → IsSibling d parent except id pos → ⊥) → Rest n
  rest_more n id rest is not_one k x le lt = elim (cases_lt n k) as (λ _. (pos : Pos) → IsSibling d parent except (get_or ids k x) pos → ⊥) [
    | inl less ↦ rest k x (omega arith) lt
    | inr not_less ↦ λ pos s.
        let same : k ≡ n = omega arith in
        not_one pos (subst (λ y. IsSibling d parent except y pos) (ap (λ j. get_or ids j x) same ∙ is x) s)
  ]
