-- A tree fits each document.
use Rattle.std.proofs.Common.{◌≡◌, ℕ, zero, suc, ◌<◌, List, [], ◌∷◌, refl, sym, ◌∙◌, ap, subst, inl, inr, arith}
use Rattle.std.specs.Prelude.{Option, None, Some}
use Rattle.std.specs.Option.{option_map}
use Rattle.std.specs.Ordering.{nat_cmp}
use Rattle.std.specs.Cmp.Lexicographic.{slice_cmp}
use Rattle.std.specs.List.Sorted.{IsStrictlySortedBy}
use Rattle.canvas_model.specs.declared.ObjId.{ObjId}
use Rattle.canvas_model.specs.Ids.{id_cmp, root}
use Rattle.canvas_model.specs.Document.{Doc, IsDocument}
use Rattle.canvas_model.specs.Chain.{itself, InTree}
use Rattle.canvas_model.specs.Children.{AreChildren, child_cmp, parent_of, position_of}
use Rattle.canvas_model.proofs.Ids.{id_apart, id_dec}
use Rattle.canvas_model.proofs.Children.{child_cmp_total, second_ties}
use Rattle.canvas_model.proofs.Trees.{below_live}
use Rattle.canvas_tree.specs.Shapes.{Forest, none, tree, Branch, tops}
use Rattle.canvas_tree.specs.Trees.{label_of, AreVertices, IsTreeAt, IsTreeOf}
use Rattle.canvas_tree.proofs.Members.{IsIn, in_from, in_to}
use Rattle.canvas_tree.proofs.Ordered.{put, put_sorted, put_in, put_keeps, put_there, sorted_none}
use Rattle.canvas_doc.proofs.Standing.{some_is}
use Rattle.canvas_doc.proofs.Levels.{root_alive}
use Rattle.canvas_tree.proofs.Rows.{object_there, everyone, live_listed, child_live, child_below, room_below, room_falls}

-- ---- the children of an object

module _ (d : Doc) (p : ObjId) where
  is_child : (q : ObjId) → Dec (parent_of d q ≡ Some p)
  is_child q = go (parent_of d q)
    where
      go : (o : Option ObjId) → Dec (o ≡ Some p)
      go None = no (λ e. cc e)
      go (Some r) = elim (id_dec r p) as (λ _. Dec (Some r ≡ Some p)) [ yes e ↦ yes (ap (λ v. Some v) e) | no n ↦ no (λ e. n (some_is r p e)) ]

  -- those of the children among these, in order
  record Gathered (qs : List ObjId) : Type 0 where
    ids : List ObjId
    in_order : IsStrictlySortedBy (child_cmp d) ids
    each : (q : ObjId) → IsIn q ids → parent_of d q ≡ Some p
    all : (q : ObjId) → IsIn q qs → parent_of d q ≡ Some p → IsIn q ids

  gather : (qs : List ObjId) → Gathered qs
  gather [] = record { ids = []; in_order = sorted_none (child_cmp d) (child_cmp_total d); each = λ q h. absurd h; all = λ q h e. absurd h }
  gather (q ∷ qs) =
      let g = gather qs in
      elim (is_child q) as (λ _. Gathered (q ∷ qs)) [
        | yes e ↦ record {
          ids = put (child_cmp d) q g.ids;
          in_order = put_sorted (child_cmp d) (child_cmp_total d) q g.ids g.in_order;
          each = λ z h. elim (put_in (child_cmp d) (child_cmp_total d) q g.ids z h) [ inl f ↦ ap (parent_of d) f ∙ e | inr k ↦ g.each z k ];
          all = λ z h f. elim h [
            | inl same ↦ subst (λ v. IsIn v (put (child_cmp d) q g.ids)) (sym same) (put_there (child_cmp d) (child_cmp_total d) (λ x y t. id_apart x y (second_ties (slice_cmp nat_cmp (position_of d x) (position_of d y)) (id_cmp x y) t)) q g.ids)
            | inr k ↦ put_keeps (child_cmp d) (child_cmp_total d) q g.ids z (g.all z k f)
          ];
        }
        | no n ↦ record {
          ids = g.ids;
          in_order = g.in_order;
          each = g.each;
          all = λ z h f. elim h [ inl same ↦ absurd (n (ap (parent_of d) (sym same) ∙ f)) | inr k ↦ g.all z k f ];
        }
      ]

  children_there : (ids : List ObjId) × AreChildren d p ids
  children_there =
      let g = gather (everyone d) in
      (g.ids, record { in_order = g.in_order; each = λ q. (λ h. g.each q (in_from g.ids q h), λ e. in_to g.ids q (g.all q (live_listed d q (child_live d q p e)) e)) })

-- ---- the trees at them

module _ (d : Doc) (is : IsDocument d) where
  grow_all : (P : ObjId → Type 0) → ((c : ObjId) → P c → (t : Branch) × IsTreeAt d c t) → (cs : List ObjId) → ((c : ObjId) → IsIn c cs → P c) → (f : Forest) × (tops f ≡ cs) × AreVertices d f
  grow_all P each [] h = (none, refl, tt)
  grow_all P each (c ∷ cs) h =
      let t = each c (h c (inl refl)) in
      let r = grow_all P each cs (λ z k. h z (inr k)) in
      (tree t.0.label t.0.below r.0, (λ i. t.1.at i ∷ r.1 i), (t.1.top, t.1.below, r.2))

  grown : (n : ℕ) (p : ObjId) → InTree d p → room_below d p < n → (t : Branch) × IsTreeAt d p t
  grown zero p h lt = absurd (omega (arith, lt))
  grown (suc n) p h lt =
      let o = object_there d p (below_live h) in
      let cs = children_there d p in
      let f = grow_all (λ c. InTree d c × (room_below d c < n)) (λ c k. grown n c k.0 k.1) cs.0
      (λ c k. let e = (cs.1.each c).0 (in_to cs.0 c k) in (child_below d c p root e h, omega (arith, lt, room_falls d p c is h e))) in (
        record { label = label_of p o.0; below = f.0 },
        record { at = refl; top = record { object = ap (option_map (label_of p)) o.1; children = subst (AreChildren d p) (sym f.1) cs.1 }; below = f.2 },
      )

  pub tree_there : (t : Branch) × IsTreeOf d t
  tree_there = grown (suc (room_below d root)) root (itself (root_alive d is)) (omega arith)
