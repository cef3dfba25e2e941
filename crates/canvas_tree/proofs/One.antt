-- Two trees that fit one document are the same.
use Rattle.std.proofs.Common.{◌≡◌, List, [], ◌∷◌, refl, sym, ◌∙◌, ap, subst}
use Rattle.canvas_model.specs.declared.ObjId.{ObjId}
use Rattle.canvas_model.specs.Document.{Doc}
use Rattle.canvas_model.specs.Children.{AreChildren, child_cmp}
use Rattle.canvas_model.proofs.Children.{child_cmp_total}
use Rattle.canvas_tree.specs.Shapes.{Forest, none, tree, Branch, tops}
use Rattle.canvas_tree.specs.Trees.{AreVertices, IsTreeAt}
use Rattle.canvas_tree.proofs.Members.{in_from, in_to}
use Rattle.canvas_tree.proofs.Ordered.{sorted_one}

-- two lists of the children of one object are one
pub children_one : (d : Doc) (p : ObjId) (cs es : List ObjId) → AreChildren d p cs → AreChildren d p es → cs ≡ es
children_one d p cs es a b =
    sorted_one (child_cmp d) (child_cmp_total d) cs es a.in_order b.in_order
    (λ z h. in_from es z ((b.each z).1 ((a.each z).0 (in_to cs z h))))
    (λ z h. in_from cs z ((a.each z).1 ((b.each z).0 (in_to es z h))))

nodes_one : (d : Doc) (f g : Forest) → AreVertices d f → AreVertices d g → tops f ≡ tops g → f ≡ g
nodes_one d none none a b e = refl
nodes_one d none (tree l k r) a b e = cc
nodes_one d (tree l k r) none a b e = cc
nodes_one d (tree l k r) (tree m j s) a b e =
    let i : l.id ≡ m.id = cc e in
    let x = a.0.object in
    let y = b.0.object in
    let w : l ≡ m = cc (i, x, y) in
    let c : tops k ≡ tops j = children_one d m.id (tops k) (tops j) (subst (λ v. AreChildren d v (tops k)) i a.0.children) b.0.children in
    let u : k ≡ j = nodes_one d k j a.1 b.1 c in
    let v : r ≡ s = nodes_one d r s a.2 b.2 (cc e) in
    cc (w, u, v)

-- two trees at one object of a document are the same
pub tree_one : (d : Doc) (id : ObjId) (t u : Branch) → IsTreeAt d id t → IsTreeAt d id u → t ≡ u
tree_one d id t u a b =
    let e : tree t.label t.below none ≡ tree u.label u.below none =
    nodes_one d (tree t.label t.below none) (tree u.label u.below none) (a.top, a.below, tt) (b.top, b.below, tt) (ap (λ v. v ∷ []) (a.at ∙ sym b.at)) in
    let l : t.label ≡ u.label = cc e in
    let k : t.below ≡ u.below = cc e in
    λ i. record { label = l i; below = k i }
