-- Trees side by side, as a growing list of them.
use Rattle.std.proofs.Common.{◌≡◌, ℕ, ◌+◌, ◌<◌, ◌≤◌, List, [], ◌∷◌, ◌++◌, length, get_or, take, refl, sym, ◌∙◌, ap, subst}
use Rattle.std.specs.Prelude.{Option, Some}
use Rattle.std.specs.Option.{option_map}
use Rattle.std.specs.List.{Contains}
use Rattle.std.specs.FinMap as map
use Rattle.std.proofs.lemmas.List.{take_more, take_all, get_or_default}
use Rattle.canvas_model.specs.declared.ObjId.{ObjId}
use Rattle.canvas_model.specs.declared.Kind.{Kind}
use Rattle.canvas_model.specs.Value.{Value}
use Rattle.canvas_model.specs.Document.{Doc, Object, Pos, Name}
use Rattle.canvas_model.specs.Children.{AreChildren, parent_of}
use Rattle.canvas_tree.specs.Shapes.{Forest, Branch, forest_of, tops}
use Rattle.canvas_tree.specs.Trees.{label_of, label_in, AreVertices, IsTreeAt}

tops_push : (bs : List Branch) (b : Branch) → tops (forest_of (bs ++ b ∷ [])) ≡ tops (forest_of bs) ++ b.label.id ∷ []
tops_push [] b = refl
tops_push (a ∷ bs) b = ap (λ v. a.label.id ∷ v) (tops_push bs b)

pub nodes_push : (d : Doc) (bs : List Branch) (id : ObjId) (b : Branch) → AreVertices d (forest_of bs) → IsTreeAt d id b → AreVertices d (forest_of (bs ++ b ∷ []))
nodes_push d [] id b h g = (g.top, g.below, tt)
nodes_push d (a ∷ bs) id b h g = (h.0, h.1, nodes_push d bs id b h.2 g)

pub parent_in : (d : Doc) (id : ObjId) (cs es : List ObjId) (i : ℕ) (x : ObjId) → cs ≡ es → AreChildren d id es → i < length cs → parent_of d (get_or cs i x) ≡ Some id
parent_in d id cs es i x e h k = (h.each (get_or cs i x)).0 (subst (λ v. Contains v (get_or cs i x)) e (i, k, get_or_default cs i (get_or cs i x) x k))

pub tops_more : (bs : List Branch) (b : Branch) (cs : List ObjId) (i : ℕ) (x : ObjId) → i < length cs → tops (forest_of bs) ≡ take i cs → b.label.id ≡ get_or cs i x → tops (forest_of (bs ++ b ∷ [])) ≡ take (i + 1) cs
tops_more bs b cs i x h e f =
    tops_push bs b ∙ ap (λ v. v ++ b.label.id ∷ []) e ∙ ap (λ v. take i cs ++ v ∷ []) f ∙ sym (take_more cs i x h)

pub children_all : (d : Doc) (p : ObjId) (f : Forest) (cs es : List ObjId) (i : ℕ) → AreChildren d p es → cs ≡ es → tops f ≡ take i cs → length cs ≤ i → AreChildren d p (tops f)
children_all d p f cs es i h e r n =
    let u : tops f ≡ es = r ∙ take_all i cs n ∙ e in
    subst (AreChildren d p) (sym u) h

pub label_is : (d : Doc) (id : ObjId) (o : Object) (kind : Kind) (pos : Option Pos) (props : List (Name × Value)) → map.get d id ≡ Some o → kind ≡ o.kind → pos ≡ option_map (λ p. p.pos) o.place → props ≡ map.entries o.props
    → label_in d id ≡ Some (record { id = id; kind = kind; pos = pos; props = props })
label_is d id o kind pos props e f g h = ap (option_map (label_of id)) e ∙ (λ j. Some (record { id = id; kind = sym f j; pos = sym g j; props = sym h j }))
