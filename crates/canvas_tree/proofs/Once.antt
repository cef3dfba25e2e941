-- No object stands in the tree of a document twice.
use Rattle.std.proofs.Common.{◌≡◌, List, [], ◌∷◌, ◌++◌, length, length-append, append_assoc, refl, sym, ◌∙◌, ap, subst, inl, inr, arith}
use Rattle.std.specs.Prelude.{Some, Bool, true, false}
use Rattle.std.specs.List.{AllByRecursion, IsDistinct}
use Rattle.canvas_model.specs.declared.ObjId.{ObjId}
use Rattle.canvas_model.specs.Ids.{root, same_id}
use Rattle.canvas_model.specs.Document.{Doc, IsDocument}
use Rattle.canvas_model.specs.Children.{parent_of}
use Rattle.canvas_model.proofs.Children.{child_cmp_total}
use Rattle.canvas_model.proofs.Ids.{same_id_true}
use Rattle.canvas_tree.specs.Shapes.{Forest, none, tree, Branch, tops, forest_ids, branch_ids}
use Rattle.canvas_tree.specs.Trees.{AreVertices, IsTreeOf}
use Rattle.canvas_tree.proofs.Members.{IsIn, Distinct, distinct_both, in_either}
use Rattle.canvas_tree.proofs.Ordered.{sorted_distinct}
use Rattle.canvas_tree.proofs.Climbs.{IsClimb, climb_one}
use Rattle.canvas_tree.proofs.Rows.{root_top}
use Rattle.canvas_tree.proofs.Stands.{child_of}

-- lists that are the same and end with equally many things end with the same
same_end : {X : Type 0} (xs ys us vs : List X) → xs ++ us ≡ ys ++ vs → length us ≡ length vs → us ≡ vs
same_end [] [] us vs e n = e
same_end [] (y ∷ ys) us vs e n = absurd (omega (arith, ap length e, n, length-append {A = _} ys vs))
same_end (x ∷ xs) [] us vs e n = absurd (omega (arith, ap length e, n, length-append {A = _} xs us))
same_end (x ∷ xs) (y ∷ ys) us vs e n = same_end xs ys us vs (cc e) n

first_same : {X : Type 0} (x y : X) (xs ys : List X) → x ∷ xs ≡ y ∷ ys → x ≡ y
first_same x y xs ys e = cc e

apart_all : (q : ObjId) (qs : List ObjId) → (IsIn q qs → ⊥) → AllByRecursion (λ y. same_id q y ≡ false) qs
apart_all q [] h = tt
apart_all q (z ∷ qs) h = (differ (same_id q z) refl, apart_all q qs (λ k. h (inr k)))
  where
    differ : (b : Bool) → same_id q z ≡ b → same_id q z ≡ false
    differ true e = absurd (h (inl (same_id_true q z e)))
    differ false e = e

distinct_ids : (qs : List ObjId) → Distinct qs → IsDistinct same_id qs
unfolding IsDistinct
distinct_ids [] d = tt
distinct_ids (q ∷ qs) d = (apart_all q qs d.0, distinct_ids qs d.1)

module _ (d : Doc) (is : IsDocument d) where
  -- an object that stands under a child of p, whose climb is ps: its own climb goes through the child
  record Placed (p : ObjId) (ps : List ObjId) (f : Forest) (q : ObjId) : Type 0 where
    child : ObjId
    among : IsIn child (tops f)
    before : List ObjId
    above : List ObjId
    climbs : IsClimb (parent_of d) root q above
    through : q ∷ above ≡ before ++ (child ∷ p ∷ ps)

  placed : (p : ObjId) (ps : List ObjId) (f : Forest) → AreVertices d f → ((c : ObjId) → IsIn c (tops f) → parent_of d c ≡ Some p) → IsClimb (parent_of d) root p ps → (q : ObjId) → IsIn q (forest_ids f) → Placed p ps f q
  placed p ps none g h c q k = absurd k
  placed p ps (tree l k r) g h c q (inl e) = record { child = l.id; among = inl refl; before = []; above = p ∷ ps; climbs = (ap (parent_of d) e ∙ h l.id (inl refl), c); through = ap (λ v. v ∷ p ∷ ps) e }
  placed p ps (tree l k r) g h c q (inr w) =
      elim (in_either q (forest_ids k) (forest_ids r) w) [
        | inl m ↦
            let s = placed l.id (p ∷ ps) k g.1 (child_of d l.id (tops k) g.0.children) (h l.id (inl refl), c) q m in
            record { child = l.id; among = inl refl; before = s.before ++ s.child ∷ []; above = s.above; climbs = s.climbs; through = s.through ∙ sym (append_assoc s.before (s.child ∷ []) (l.id ∷ p ∷ ps)) }
        | inr m ↦
            let s = placed p ps r g.2 (λ c i. h c (inr i)) c q m in
            record { child = s.child; among = inr s.among; before = s.before; above = s.above; climbs = s.climbs; through = s.through }
      ]

  distinct_in : (p : ObjId) (ps : List ObjId) (f : Forest) → AreVertices d f → ((c : ObjId) → IsIn c (tops f) → parent_of d c ≡ Some p) → IsClimb (parent_of d) root p ps → Distinct (tops f) → Distinct (forest_ids f)
  distinct_in p ps none g h c apart = tt
  distinct_in p ps (tree l k r) g h c apart =
      let up : IsClimb (parent_of d) root l.id (p ∷ ps) = (h l.id (inl refl), c) in
      let kids = child_of d l.id (tops k) g.0.children in
      let under : (q : ObjId) → IsIn q (forest_ids k) → Placed l.id (p ∷ ps) k q = placed l.id (p ∷ ps) k g.1 kids up in
      let beside : (q : ObjId) → IsIn q (forest_ids r) → Placed p ps r q = placed p ps r g.2 (λ c i. h c (inr i)) c in
      let one : (q : ObjId) (us vs : List ObjId) → IsClimb (parent_of d) root q us → IsClimb (parent_of d) root q vs → us ≡ vs = climb_one (parent_of d) root (root_top d is) in (
        λ w. elim (in_either l.id (forest_ids k) (forest_ids r) w) [
          | inl m ↦
              let s = under l.id m in
              let e : l.id ∷ p ∷ ps ≡ s.before ++ (s.child ∷ l.id ∷ p ∷ ps) = ap (λ v. l.id ∷ v) (one l.id (p ∷ ps) s.above up s.climbs) ∙ s.through in
              omega (arith, ap length e, length-append {A = ObjId} s.before (s.child ∷ l.id ∷ p ∷ ps))
          | inr m ↦
              let s = beside l.id m in
              let e : l.id ∷ p ∷ ps ≡ s.before ++ (s.child ∷ p ∷ ps) = ap (λ v. l.id ∷ v) (one l.id (p ∷ ps) s.above up s.climbs) ∙ s.through in
              let f : l.id ≡ s.child = first_same l.id s.child (p ∷ ps) (p ∷ ps) (same_end [] s.before (l.id ∷ p ∷ ps) (s.child ∷ p ∷ ps) e refl) in
              apart.0 (subst (λ v. IsIn v (tops r)) (sym f) s.among)
        ],
        distinct_both (forest_ids k) (forest_ids r)
            (distinct_in l.id (p ∷ ps) k g.1 kids up (sorted_distinct (Rattle.canvas_model.specs.Children.child_cmp d) (child_cmp_total d) (tops k) g.0.children.in_order))
            (distinct_in p ps r g.2 (λ c i. h c (inr i)) c apart.1)
            (λ q a b.
            let s = under q a in
            let t = beside q b in
            let e : s.before ++ (s.child ∷ l.id ∷ p ∷ ps) ≡ t.before ++ (t.child ∷ p ∷ ps) = sym s.through ∙ ap (λ v. q ∷ v) (one q s.above t.above s.climbs t.climbs) ∙ t.through in
            let f : l.id ≡ t.child = first_same l.id t.child (p ∷ ps) (p ∷ ps)
            (same_end (s.before ++ s.child ∷ []) t.before (l.id ∷ p ∷ ps) (t.child ∷ p ∷ ps) (append_assoc s.before (s.child ∷ []) (l.id ∷ p ∷ ps) ∙ e) refl) in
            apart.0 (subst (λ v. IsIn v (tops r)) (sym f) t.among)),
      )

  pub tree_distinct : (t : Branch) → IsTreeOf d t → IsDistinct same_id (branch_ids t)
  tree_distinct t h =
      let here : IsClimb (parent_of d) root t.label.id [] = h.at in
      let kids = child_of d t.label.id (tops t.below) h.top.children in
      distinct_ids (branch_ids t) (
        λ m.
            let s = placed t.label.id [] t.below h.below kids here t.label.id m in
            let e : [] ≡ s.above = climb_one (parent_of d) root (root_top d is) t.label.id [] s.above here s.climbs in
            omega (arith, ap length e, ap length s.through, length-append {A = ObjId} s.before (s.child ∷ t.label.id ∷ [])),
        distinct_in t.label.id [] t.below h.below kids here (sorted_distinct (Rattle.canvas_model.specs.Children.child_cmp d) (child_cmp_total d) (tops t.below) h.top.children.in_order),
      )
