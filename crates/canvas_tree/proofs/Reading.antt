-- Reading trees side by side one after another.
use Rattle.std.proofs.Common.{◌≡◌, ℕ, zero, suc, ◌+◌, ◌-◌, ◌<◌, ◌≤◌, List, [], ◌∷◌, ◌++◌, length, get_or, take, drop, min, refl, sym, ◌∙◌, ap, arith, add-one, append_assoc, length-append, drop-cons}
use Rattle.std.specs.Prelude.{Option, None, Some, Bool, true, false, cond, ◌&&◌, ◌==◌}
use borrow.Author.Tests.{eq-eqb, eqb-true}
use Rattle.std.specs.Option.{option_map, option_or}
use Rattle.std.proofs.lemmas.List.{take_more}
use Rattle.std.proofs.Math.Seq.{take-append_seam}
use Rattle.canvas_model.specs.declared.ObjId.{ObjId}
use Rattle.canvas_model.specs.declared.Kind.{Kind}
use Rattle.canvas_model.specs.Value.{Value}
use Rattle.canvas_model.specs.Document.{Pos, Name}
use Rattle.canvas_model.specs.Ids.{same_id}
use Rattle.canvas_model.proofs.Ids.{same_id_true, id_itself}
use Rattle.canvas_tree.specs.Shapes.{Label, Forest, none, tree, Branch, branch, forest_of, forest_size, branch_size}
use Rattle.canvas_tree.specs.Reads.{found_in, found, path_in, path, Walked}

-- ids are the same by their parts
pub by_parts : (a b : ObjId) → ((a.client == b.client) && (a.counter == b.counter)) ≡ same_id a b
by_parts a b = elim (same_id a b) as (λ r. same_id a b ≡ r → ((a.client == b.client) && (a.counter == b.counter)) ≡ r) [
  | true ↦ λ e. let i = same_id_true a b e in rw (eq-eqb a.client b.client (ap (λ v. v.client) i), eq-eqb a.counter b.counter (ap (λ v. v.counter) i)) refl
  | false ↦ λ e. go (a.client == b.client) (a.counter == b.counter) refl refl e
] refl
  where
    go : (x y : Bool) → (a.client == b.client) ≡ x → (a.counter == b.counter) ≡ y → same_id a b ≡ false → (x && y) ≡ false
    go false y f g e = refl
    go true false f g e = refl
    go true true f g e =
        let p : a.client ≡ b.client = eqb-true a.client b.client f in
        let q : a.counter ≡ b.counter = eqb-true a.counter b.counter g in
        let i : a ≡ b = λ t. record { client = p t; counter = q t } in
        let h : same_id a b ≡ true = ap (λ v. same_id v b) i ∙ id_itself b in
        absurd (let z : true ≡ false = sym h ∙ e in cc z)

size_push : (bs : List Branch) (b : Branch) → forest_size (forest_of (bs ++ b ∷ [])) ≡ forest_size (forest_of bs) + branch_size b
size_push [] b = omega arith
size_push (a ∷ bs) b = omega (arith, size_push bs b)

size_more : (bs : List Branch) (i : ℕ) (d : Branch) → i < length bs → forest_size (forest_of (take (i + 1) bs)) ≡ forest_size (forest_of (take i bs)) + branch_size (get_or bs i d)
size_more bs i d h = ap (λ v. forest_size (forest_of v)) (take_more bs i d h) ∙ size_push (take i bs) (get_or bs i d)

-- a tree is smaller than what it stands in
size_below : (bs : List Branch) (i : ℕ) (d : Branch) → i < length bs → branch_size (get_or bs i d) ≤ forest_size (forest_of bs)
size_below [] i d h = absurd (omega (arith, h))
size_below (b ∷ bs) zero d h = omega arith
size_below (b ∷ bs) (suc i) d h = let k : branch_size (get_or bs i d) ≤ forest_size (forest_of bs) = size_below bs i d (omega (arith, h)) in omega (arith, k)

pub tree_below : (bs cs : List Branch) (i : ℕ) (x : Branch) → cs ≡ bs → i < length cs → x ≡ get_or cs i x → branch_size x ≤ forest_size (forest_of bs)
tree_below bs cs i x f h w =
    let k : branch_size (get_or cs i x) ≤ forest_size (forest_of cs) = size_below cs i x h in
    omega (arith, k, ap branch_size w, ap (λ v. forest_size (forest_of v)) f)

-- the trees in a tree are smaller, as a list
pub trees_below : (l : Label) (bs : List Branch) (t : Branch) → (let b : Branch = record { label = l; below = forest_of bs } in b ≡ t) → suc (forest_size (forest_of bs)) ≡ branch_size t
trees_below l bs t e = ap branch_size e

pub counted_more : (cs : List Branch) (i : ℕ) (x : Branch) (m s n r : ℕ) → i < length cs → x ≡ get_or cs i x → s ≡ min (forest_size (forest_of (take i cs)) + 1) m → n ≡ min (branch_size x) m → r ≡ min (s + n) m → r ≡ min (forest_size (forest_of (take (i + 1) cs)) + 1) m
counted_more cs i x m s n r h w e f g = omega (arith, size_more cs i x h, ap branch_size w, e, f, g)

-- ---- the tree at an object

found_first : (id : ObjId) (l : Label) (k r : Forest) → found_in id (tree l k r) ≡ option_or (found id (record { label = l; below = k })) (found_in id r)
found_first id l k r =
    elim (same_id l.id id) as (λ b. cond b (Some (let t : Branch = record { label = l; below = k } in t)) (option_or (found_in id k) (found_in id r)) ≡ option_or (cond b (Some (let t : Branch = record { label = l; below = k } in t)) (found_in id k)) (found_in id r)) [ true ↦ refl | false ↦ refl ]

found_more : (id : ObjId) (bs : List Branch) (i : ℕ) (d : Branch) → i < length bs → found_in id (forest_of (drop i bs)) ≡ option_or (found id (get_or bs i d)) (found_in id (forest_of (drop (i + 1) bs)))
found_more id bs i d h = rw (add-one, drop-cons bs i d) (found_first id (get_or bs i d).label (get_or bs i d).below (forest_of (drop (suc i) bs)))

pub found_here : (id : ObjId) (l : Label) (bs cs : List Branch) (t : Branch) (i : ℕ) (y x : Branch) → (let b : Branch = record { label = l; below = forest_of bs } in b ≡ t) → cs ≡ bs → same_id l.id id ≡ false → found_in id (forest_of cs) ≡ found_in id (forest_of (drop i cs)) → i < length cs → y ≡ get_or cs i y → Some x ≡ found id y → Some x ≡ found id t
found_here id l bs cs t i y x e f n h k is w =
    let a : found id t ≡ found_in id (forest_of bs) = ap (found id) (sym e) ∙ (rw n refl) in
    let b : found_in id (forest_of bs) ≡ option_or (found id (get_or cs i y)) (found_in id (forest_of (drop (i + 1) cs))) = ap (λ v. found_in id (forest_of v)) (sym f) ∙ h ∙ found_more id cs i y k in
    let z : option_or (found id (get_or cs i y)) (found_in id (forest_of (drop (i + 1) cs))) ≡ Some x = ap (λ v. option_or v (found_in id (forest_of (drop (i + 1) cs)))) (ap (found id) (sym is) ∙ sym w) in
    sym (a ∙ b ∙ z)

pub found_not_here : (id : ObjId) (cs : List Branch) (i : ℕ) (y : Branch) → found_in id (forest_of cs) ≡ found_in id (forest_of (drop i cs)) → i < length cs → y ≡ get_or cs i y → None ≡ found id y → found_in id (forest_of cs) ≡ found_in id (forest_of (drop (i + 1) cs))
found_not_here id cs i y h k is w =
    let z : option_or (found id (get_or cs i y)) (found_in id (forest_of (drop (i + 1) cs))) ≡ found_in id (forest_of (drop (i + 1) cs)) = ap (λ v. option_or v (found_in id (forest_of (drop (i + 1) cs)))) (ap (found id) (sym is) ∙ sym w) in
    h ∙ found_more id cs i y k ∙ z

-- ---- the path to an object

path_first : (id : ObjId) (l : Label) (k r : Forest) → path_in id (tree l k r) ≡ option_or (path id (record { label = l; below = k })) (path_in id r)
path_first id l k r =
    elim (same_id l.id id) as (λ b. cond b (Some (l.id ∷ [])) (option_or (option_map (λ p. l.id ∷ p) (path_in id k)) (path_in id r)) ≡ option_or (cond b (Some (l.id ∷ [])) (option_map (λ p. l.id ∷ p) (path_in id k))) (path_in id r)) [ true ↦ refl | false ↦ refl ]

path_more : (id : ObjId) (bs : List Branch) (i : ℕ) (d : Branch) → i < length bs → path_in id (forest_of (drop i bs)) ≡ option_or (path id (get_or bs i d)) (path_in id (forest_of (drop (i + 1) bs)))
path_more id bs i d h = rw (add-one, drop-cons bs i d) (path_first id (get_or bs i d).label (get_or bs i d).below (forest_of (drop (suc i) bs)))

pub path_here : (id : ObjId) (bs cs : List Branch) (i : ℕ) (y : Branch) (ps : List ObjId) → cs ≡ bs → path_in id (forest_of cs) ≡ path_in id (forest_of (drop i cs)) → i < length cs → y ≡ get_or cs i y → path id y ≡ Some ps → path_in id (forest_of bs) ≡ Some ps
path_here id bs cs i y ps f h k is w =
    let z : option_or (path id (get_or cs i y)) (path_in id (forest_of (drop (i + 1) cs))) ≡ Some ps = ap (λ v. option_or v (path_in id (forest_of (drop (i + 1) cs)))) (ap (path id) (sym is) ∙ w) in
    ap (λ v. path_in id (forest_of v)) (sym f) ∙ h ∙ path_more id cs i y k ∙ z

pub path_not_here : (id : ObjId) (cs : List Branch) (i : ℕ) (y : Branch) → path_in id (forest_of cs) ≡ path_in id (forest_of (drop i cs)) → i < length cs → y ≡ get_or cs i y → path id y ≡ None → path_in id (forest_of cs) ≡ path_in id (forest_of (drop (i + 1) cs))
path_not_here id cs i y h k is w =
    let z : option_or (path id (get_or cs i y)) (path_in id (forest_of (drop (i + 1) cs))) ≡ path_in id (forest_of (drop (i + 1) cs)) = ap (λ v. option_or v (path_in id (forest_of (drop (i + 1) cs)))) (ap (path id) (sym is) ∙ w) in
    h ∙ path_more id cs i y k ∙ z

-- the path to an object below the top of a tree begins with the top
path_through : (id : ObjId) (l : Label) (bs : List Branch) (t : Branch) → (let b : Branch = record { label = l; below = forest_of bs } in b ≡ t) → same_id l.id id ≡ false → path id t ≡ option_map (λ p. l.id ∷ p) (path_in id (forest_of bs))
path_through id l bs t e f = ap (path id) (sym e) ∙ rw f refl

-- a walk that wrote the top and then found the object below it
pub walked_below : (id : ObjId) (l : Label) (bs : List Branch) (t : Branch) (old here new : List ObjId) → (let b : Branch = record { label = l; below = forest_of bs } in b ≡ t) → same_id l.id id ≡ false → here ≡ old ++ l.id ∷ [] → Walked true (path_in id (forest_of bs)) here new → Walked true (path id t) old new
walked_below id l bs t old here new e f g w = (
  l.id ∷ w.0,
  path_through id l bs t e f ∙ ap (option_map (λ p. l.id ∷ p)) w.1,
  w.2 ∙ ap (λ v. v ++ w.0) g ∙ append_assoc old (l.id ∷ []) w.0,
)

-- a walk that wrote the top, didn't find the object below it, and took the top back
pub walked_back : (id : ObjId) (l : Label) (bs : List Branch) (t : Branch) (old here there new : List ObjId) (n : ℕ) → (let b : Branch = record { label = l; below = forest_of bs } in b ≡ t) → same_id l.id id ≡ false → here ≡ old ++ l.id ∷ [] → Walked false (path_in id (forest_of bs)) here there → n ≡ length there → new ≡ take (n - 1) there → Walked false (path id t) old new
walked_back id l bs t old here there new n e f g w len rest =
    let h : there ≡ old ++ l.id ∷ [] = w.1 ∙ g in
    let k : n - 1 ≡ length old = omega (arith, len, ap length h, length-append {A = ObjId} old (l.id ∷ [])) in
    (path_through id l bs t e f ∙ ap (option_map (λ p. l.id ∷ p)) w.0, rest ∙ (λ i. take (k i) (h i)) ∙ take-append_seam old (l.id ∷ []))

-- ---- two trees

abbrev trees_of : Forest → List Branch
trees_of none = []
trees_of (tree l k r) = record { label = l; below = k } ∷ trees_of r

trees_back : (bs : List Branch) → trees_of (forest_of bs) ≡ bs
trees_back [] = refl
trees_back (b ∷ bs) = ap (λ v. b ∷ v) (trees_back bs)

-- two trees with one label are the same where the trees in them are
pub same_branch : (l m : Label) (bs cs : List Branch) (t u : Branch) → (let b : Branch = record { label = l; below = forest_of bs } in b ≡ t) → (let b : Branch = record { label = m; below = forest_of cs } in b ≡ u) → t.label ≡ u.label → (bs ≡ cs → t ≡ u) × (t ≡ u → bs ≡ cs)
same_branch l m bs cs t u e f h = (
  λ k. let x : l ≡ m = ap (λ v. v.label) e ∙ h ∙ sym (ap (λ v. v.label) f) in sym e ∙ (λ i. record { label = x i; below = forest_of (k i) }) ∙ f,
  λ k. let x : forest_of bs ≡ forest_of cs = ap (λ v. v.below) (e ∙ k ∙ sym f) in sym (trees_back bs) ∙ ap trees_of x ∙ trees_back cs,
)

-- two trees are the same whose parts are
pub by_branches : (id : ObjId) (kind : Kind) (p q : Option Pos) (xs ys : List (Name × Value)) (bs cs : List Branch) (t : Branch) → p ≡ q → xs ≡ ys → bs ≡ cs → branch id kind q ys cs ≡ t → branch id kind p xs bs ≡ t
by_branches id kind p q xs ys bs cs t e f g h = (λ i. branch id kind (e i) (f i) (g i)) ∙ h
