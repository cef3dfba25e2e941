-- What stands in the tree of a document is what has a chain of parents to the root.
use Rattle.std.proofs.Common.{◌≡◌, List, [], length, length-append, refl, sym, ◌∙◌, ap, subst, inl, inr, arith}
use Rattle.std.specs.Prelude.{None, Some, true, is_some}
use Rattle.std.specs.Option.{option_map}
use Rattle.canvas_model.specs.declared.ObjId.{ObjId}
use Rattle.canvas_model.specs.Document.{Doc, live}
use Rattle.canvas_model.specs.Chain.{Below, itself, through}
use Rattle.canvas_model.specs.Children.{AreChildren, parent_of}
use Rattle.std.specs.FinMap as finmap
use Rattle.canvas_tree.specs.Shapes.{Label, Forest, none, tree, Branch, tops, forest_ids, branch_ids, forest_size, branch_size}
use Rattle.canvas_tree.specs.Trees.{label_of, label_in, IsVertex, AreVertices, IsTreeAt}
use Rattle.canvas_tree.proofs.Members.{IsIn, in_from, in_to, in_left, in_right, in_either}
use Rattle.canvas_tree.proofs.Rows.{some_or_none, child_below}

pub child_of : (d : Doc) (p : ObjId) (cs : List ObjId) → AreChildren d p cs → (q : ObjId) → IsIn q cs → parent_of d q ≡ Some p
child_of d p cs h q k = (h.each q).0 (in_to cs q k)

pub child_among : (d : Doc) (p : ObjId) (cs : List ObjId) → AreChildren d p cs → (q : ObjId) → parent_of d q ≡ Some p → IsIn q cs
child_among d p cs h q e = in_from cs q ((h.each q).1 e)

pub top_in : (q : ObjId) (f : Forest) → IsIn q (tops f) → IsIn q (forest_ids f)
top_in q none h = h
top_in q (tree l k r) (inl e) = inl e
top_in q (tree l k r) (inr h) = inr (in_right q (forest_ids k) (forest_ids r) (top_in q r h))

pub node_live : (d : Doc) (l : Label) (k : Forest) → IsVertex d l k → live d l.id ≡ true
node_live d l k h = elim (some_or_none (finmap.get d l.id)) [
  | inl s ↦ ap is_some s.1
  | inr n ↦ absurd (let e = h.object in let f : label_in d l.id ≡ None = ap (option_map (label_of l.id)) n in cc)
]

-- ---- each object in the tree has a chain

below_tops : (d : Doc) (o : ObjId) (f : Forest) → AreVertices d f → ((q : ObjId) → IsIn q (tops f) → Below d q o) → (q : ObjId) → IsIn q (forest_ids f) → Below d q o
below_tops d o none g h q k = absurd k
below_tops d o (tree l k r) g h q (inl e) = h q (inl e)
below_tops d o (tree l k r) g h q (inr w) =
    elim (in_either q (forest_ids k) (forest_ids r) w) [
      | inl m ↦ below_tops d o k g.1 (λ c i. child_below d c l.id o (child_of d l.id (tops k) g.0.children c i) (h l.id (inl refl))) q m
      | inr m ↦ below_tops d o r g.2 (λ c i. h c (inr i)) q m
    ]

pub stands_below : (d : Doc) (id : ObjId) (t : Branch) → IsTreeAt d id t → (q : ObjId) → IsIn q (branch_ids t) → Below d q id
stands_below d id t h q k =
    let here : Below d t.label.id id = subst (λ v. Below d t.label.id v) h.at (itself (node_live d t.label t.below h.top)) in
    below_tops d id (tree t.label t.below none) (h.top, h.below, tt) (λ c i. elim i [ inl e ↦ subst (λ v. Below d v id) (sym e) here | inr n ↦ absurd n ]) q
    (elim k [ inl e ↦ inl e | inr m ↦ inr (in_left q (forest_ids t.below) [] m) ])

-- ---- each object with a chain is in the tree

child_in : (d : Doc) (f : Forest) → AreVertices d f → (p q : ObjId) → parent_of d q ≡ Some p → IsIn p (forest_ids f) → IsIn q (forest_ids f)
child_in d none g p q e h = absurd h
child_in d (tree l k r) g p q e (inl w) = inr (in_left q (forest_ids k) (forest_ids r) (top_in q k (child_among d l.id (tops k) g.0.children q (e ∙ ap (λ v. Some v) w))))
child_in d (tree l k r) g p q e (inr w) =
    elim (in_either p (forest_ids k) (forest_ids r) w) [
      | inl m ↦ inr (in_left q (forest_ids k) (forest_ids r) (child_in d k g.1 p q e m))
      | inr m ↦ inr (in_right q (forest_ids k) (forest_ids r) (child_in d r g.2 p q e m))
    ]

pub below_stands : (d : Doc) (t : Branch) (q id : ObjId) → IsTreeAt d id t → Below d q id → IsIn q (branch_ids t)
below_stands d t q id h (itself a) = inl (sym h.at)
below_stands d t q id h (through place is up) =
    let e : parent_of d q ≡ Some place.parent = ap (option_map (λ p. p.parent)) is in
    elim (below_stands d t place.parent id h up) [
      | inl f ↦ inr (top_in q t.below (child_among d t.label.id (tops t.below) h.top.children q (e ∙ ap (λ v. Some v) f)))
      | inr m ↦ inr (child_in d t.below h.below place.parent q e m)
    ]

-- ---- how many there are

forest_counts : (f : Forest) → forest_size f ≡ length (forest_ids f)
forest_counts none = refl
forest_counts (tree l k r) = omega (arith, forest_counts k, forest_counts r, length-append {A = ObjId} (forest_ids k) (forest_ids r))

pub size_counts : (t : Branch) → branch_size t ≡ length (branch_ids t)
size_counts t = omega (arith, forest_counts t.below)
