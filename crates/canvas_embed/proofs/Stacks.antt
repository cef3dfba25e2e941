-- A tree's text by a stack of the objects that are still to be written.
use Rattle.std.proofs.Common.{◌≡◌, ℕ, ◌+◌, ◌≤◌, suc, List, [], ◌∷◌, ◌++◌, length, refl, sym, ◌∙◌, ap, subst, append_assoc, append-nil, arith}
use Rattle.std.specs.Prelude.{Option, Some, None, map, reverse, true}
use Rattle.std.specs.List.{Contains, flat_map}
use Rattle.std.specs.Option.{option_map, option_to_list}
use Rattle.std.specs.FinMap as finmap
use Rattle.std.proofs.lemmas.List.{reverse-append, reverse-reverse, map-append, length-reverse}
use Rattle.std.proofs.lemmas.Grind.{flat_map-append}
use Rattle.canvas_model.specs.declared.ObjId.{ObjId}
use Rattle.canvas_model.specs.Ids.{root}
use Rattle.canvas_model.specs.Document.{Doc, Object, IsDocument, live}
use Rattle.canvas_model.specs.Children.{AreChildren}
use Rattle.canvas_model.proofs.Trees.{below_live}
use Rattle.canvas_judge.proofs.Gathered.{few}
use Rattle.canvas_tree.specs.Laws.{SizesCount, TreesHoldInTree, TreesHoldOnce}
use Rattle.canvas_tree.specs.Shapes.{Label, Forest, none, tree, Branch, tops, forest_size, branch_ids, branch_size}
use Rattle.canvas_tree.specs.Texts.{label_text, forest_text, tree_text}
use Rattle.canvas_tree.specs.Trees.{label_of, label_in, AreVertices, IsTreeAt, IsTreeOf}
use Rattle.canvas_tree.proofs.One.{children_one}
use Rattle.canvas_embed.specs.declared.trees.Pending.{Pending}
use Rattle.canvas_embed.specs.Trees.{IsTextOfTree, ListsBelow, pending_at}

-- ---- trees at their levels

-- the object at the top of a tree, as it stands on the stack
abbrev pub top_of : ℕ × Branch → Pending
top_of p = pending_at p.0 p.1.label.id

-- the text of a tree at its level
abbrev pub text_at : ℕ × Branch → List ℕ
text_at p = tree_text p.1 p.0

-- how many objects these trees have
abbrev pub total : List (ℕ × Branch) → ℕ
total [] = 0
total (p ∷ ps) = branch_size p.1 + total ps

-- the trees side by side, each at this level
abbrev pub at_level : ℕ → Forest → List (ℕ × Branch)
at_level n none = []
at_level n (tree l k r) = (n, record { label = l; below = k }) ∷ at_level n r

-- each is the tree at its object, and stands no deeper than this
abbrev pub AreLow : Doc → ℕ → List (ℕ × Branch) → Type 0
AreLow d m [] = Unit {0}
AreLow d m (p ∷ ps) = (p.0 ≤ m) × IsTreeAt d p.1.label.id p.1 × AreLow d m ps

text_below : (n : ℕ) (f : Forest) → flat_map text_at (at_level n f) ≡ forest_text f n
text_below n none = refl
text_below n (tree l k r) = ap (λ v. text_at (n, record { label = l; below = k }) ++ v) (text_below n r)

size_below : (n : ℕ) (f : Forest) → total (at_level n f) ≡ forest_size f
size_below n none = refl
size_below n (tree l k r) = ap (λ v. suc (forest_size k) + v) (size_below n r) ∙ omega arith

total-append : (ps qs : List (ℕ × Branch)) → total (ps ++ qs) ≡ total ps + total qs
total-append [] qs = omega arith
total-append (p ∷ ps) qs = omega (arith, total-append ps qs)

tops_below : (n : ℕ) (f : Forest) → map top_of (at_level n f) ≡ map (pending_at n) (tops f)
tops_below n none = refl
tops_below n (tree l k r) = ap (λ v. pending_at n l.id ∷ v) (tops_below n r)

low_below : (d : Doc) (n : ℕ) (f : Forest) → AreVertices d f → AreLow d n (at_level n f)
low_below d n none h = tt
low_below d n (tree l k r) h = (omega arith, record { at = refl; top = h.0; below = h.1 }, low_below d n r h.2)

low_more : (d : Doc) (m n : ℕ) (ps : List (ℕ × Branch)) → m ≤ n → AreLow d m ps → AreLow d n ps
low_more d m n [] h a = tt
low_more d m n (p ∷ ps) h a = (omega (arith, h, a.0), a.1, low_more d m n ps h a.2)

low_both : (d : Doc) (n : ℕ) (ps qs : List (ℕ × Branch)) → AreLow d n ps → AreLow d n qs → AreLow d n (ps ++ qs)
low_both d n [] qs a b = b
low_both d n (p ∷ ps) qs a b = (a.0, a.1, low_both d n ps qs a.2 b)

-- the stack takes the children from the last one on
pub from_last : (n : ℕ) (ids : List ObjId) → map (pending_at n) (reverse ids) ≡ reverse (map (pending_at n) ids)
from_last n [] = refl
from_last n (q ∷ qs) =
    ap (map (pending_at n)) (reverse-append (q ∷ []) qs) ∙ map-append (pending_at n) (reverse qs) (q ∷ []) ∙ ap (λ v. v ++ pending_at n q ∷ []) (from_last n qs)
    ∙ sym (reverse-append (pending_at n q ∷ []) (map (pending_at n) qs))

-- ---- the loop

-- After i objects were written these are the trees whose texts are left, the next one first; the stack has their tops.
pub record Rests (d : Doc) (i : ℕ) (pending : List Pending) (text : List ℕ) : Type 0 where
  pub whole : Branch
  pub fits : IsTreeOf d whole
  pub trees : List (ℕ × Branch)
  pub stack : reverse pending ≡ map top_of trees
  pub low : AreLow d i trees
  pub written : tree_text whole 0 ≡ text ++ flat_map text_at trees
  pub count : i + total trees ≡ branch_size whole

pub begins : (d : Doc) (t : Branch) → IsTreeOf d t → Rests d 0 (pending_at 0 root ∷ []) []
begins d t h = record {
  whole = t;
  fits = h;
  trees = (0, t) ∷ [];
  stack = ap (λ v. pending_at 0 v ∷ []) (sym h.at);
  low = (omega arith, subst (λ v. IsTreeAt d v t) (sym h.at) h, tt);
  written = sym (append-nil (tree_text t 0));
  count = omega arith;
}

-- the last one of the stack is the top of the first tree
pub record Popped (d : Doc) (i : ℕ) (left : List Pending) (next : Pending) (text : List ℕ) : Type 0 where
  pub whole : Branch
  pub fits : IsTreeOf d whole
  pub first : ℕ × Branch
  pub others : List (ℕ × Branch)
  pub top : next ≡ top_of first
  pub stack : reverse left ≡ map top_of others
  pub here : IsTreeAt d first.1.label.id first.1
  pub high : first.0 ≤ i
  pub low : AreLow d i others
  pub written : tree_text whole 0 ≡ text ++ (text_at first ++ flat_map text_at others)
  pub count : i + (branch_size first.1 + total others) ≡ branch_size whole

pub popped : (d : Doc) (i : ℕ) (old left : List Pending) (next : Pending) (text : List ℕ) → Rests d i old text → old ≡ left ++ option_to_list (Some next) → Popped d i left next text
popped d i old left next text r e = go r.trees refl
  where
    back : next ∷ reverse left ≡ map top_of r.trees
    back = sym (reverse-append left (next ∷ [])) ∙ ap reverse (sym e) ∙ r.stack

    go : (ps : List (ℕ × Branch)) → r.trees ≡ ps → Popped d i left next text
    go [] f = absurd (let g : next ∷ reverse left ≡ [] = back ∙ ap (map top_of) f in cc g)
    go (p ∷ ps) f =
        let g : next ∷ reverse left ≡ top_of p ∷ map top_of ps = back ∙ ap (map top_of) f in let a : AreLow d i (p ∷ ps) = subst (AreLow d i) f r.low in
        record {
          whole = r.whole;
          fits = r.fits;
          first = p;
          others = ps;
          top = cc g;
          stack = cc g;
          here = a.1;
          high = a.0;
          low = a.2;
          written = r.written ∙ ap (λ v. text ++ flat_map text_at v) f;
          count = ap (λ v. i + total v) (sym f) ∙ r.count;
        }

shown : (d : Doc) (l : Label) → label_in d l.id ≡ Some l → (o : Object) × (finmap.get d l.id ≡ Some o) × (label_of l.id o ≡ l)
shown d l h = go (finmap.get d l.id) refl
  where
    go : (m : Option Object) → finmap.get d l.id ≡ m → (o : Object) × (finmap.get d l.id ≡ Some o) × (label_of l.id o ≡ l)
    go None e = absurd (let f : None ≡ Some l = sym (ap (option_map (label_of l.id)) e) ∙ h in cc f)
    go (Some o) e = (o, e, let f : Some (label_of l.id o) ≡ Some l = sym (ap (option_map (label_of l.id)) e) ∙ h in cc f)

-- an object that is next is live, and this is what its tree says of it;
pub next_live : (d : Doc) (i : ℕ) (left : List Pending) (next : Pending) (text : List ℕ) (p : Popped d i left next text) → (o : Object) × (finmap.get d next.id ≡ Some o) × (label_of next.id o ≡ p.first.1.label)
next_live d i left next text p =
    let s = shown d p.first.1.label p.here.top.object in let e : next.id ≡ p.first.1.label.id = ap (λ v. v.id) p.top in
    (s.0, ap (finmap.get d) e ∙ s.1, ap (λ v. label_of v s.0) e ∙ s.2)

parts : (a b c e : List ℕ) → a ++ ((b ++ c) ++ e) ≡ (a ++ b) ++ (c ++ e)
parts a b c e = simp append_assoc refl

-- and once its lines are written and its children lie on the stack, the rest is what was below it and what was left
pub steps : (d : Doc) (i : ℕ) (left new : List Pending) (next : Pending) (text out : List ℕ) (o : Object) → Popped d i left next text → finmap.get d next.id ≡ Some o
    → out ≡ text ++ label_text next.level (label_of next.id o) → ListsBelow d next left new → Rests d (i + 1) new out
steps d i left new next text out o p is e b =
    let n : ℕ = p.first.0 in let l : Label = p.first.1.label in let k : Forest = p.first.1.below in let s = next_live d i left next text p in
    let same : o ≡ s.0 = let f : Some o ≡ Some s.0 = sym is ∙ s.1 in cc f in
    let label : label_of next.id o ≡ l = ap (label_of next.id) same ∙ s.2 in
    let level : next.level ≡ n = ap (λ v. v.level) p.top in
    let deeper : next.level + 1 ≡ suc n = omega (arith, level) in
    let ids : b.ids ≡ tops k = children_one d l.id b.ids (tops k) (subst (λ v. AreChildren d v b.ids) (ap (λ v. v.id) p.top) b.children) p.here.top.children in
    let below : List (ℕ × Branch) = at_level (suc n) k in
    record {
      whole = p.whole;
      fits = p.fits;
      trees = below ++ p.others;
      stack =
          ap reverse b.behind ∙ reverse-append left (reverse (map (pending_at (next.level + 1)) b.ids)) ∙ ap (λ v. v ++ reverse left) (reverse-reverse (map (pending_at (next.level + 1)) b.ids))
          ∙ (λ j. map (pending_at (deeper j)) (ids j) ++ p.stack j) ∙ ap (λ v. v ++ map top_of p.others) (sym (tops_below (suc n) k)) ∙ sym (map-append top_of below p.others);
      low = low_both d (i + 1) below p.others (low_more d (suc n) (i + 1) below (omega (arith, p.high)) (low_below d (suc n) k p.here.below)) (low_more d i (i + 1) p.others (omega arith) p.low);
      written =
          p.written ∙ parts text (label_text n l) (forest_text k (suc n)) (flat_map text_at p.others)
          ∙ (λ j. (text ++ label_text (sym level j) (sym label j)) ++ (sym (text_below (suc n) k) j ++ flat_map text_at p.others))
          ∙ (λ j. sym e j ++ sym (flat_map-append text_at below p.others) j);
      count = omega (arith, p.count, total-append below p.others, size_below (suc n) k);
    }

-- ---- the end

-- where nothing is on the stack, all is written,
pub ends : (d : Doc) (i : ℕ) (pending : List Pending) (text : List ℕ) → length pending ≡ 0 → Rests d i pending text → IsTextOfTree d text
ends d i pending text empty r = go r.trees refl
  where
    go : (ps : List (ℕ × Branch)) → r.trees ≡ ps → IsTextOfTree d text
    go [] f = record { tree = r.whole; shown = r.fits; text = sym (r.written ∙ ap (λ v. text ++ flat_map text_at v) f ∙ append-nil text) }
    go (p ∷ ps) f = absurd (let g : reverse pending ≡ top_of p ∷ map top_of ps = r.stack ∙ ap (map top_of) f in omega (arith, empty, ap length g, length-reverse pending))

-- and so it is after as many objects as the document has
pub all_written : (d : Doc) (i : ℕ) (pending : List Pending) (text : List ℕ) → IsDocument d → TreesHoldInTree → TreesHoldOnce → SizesCount → length (finmap.entries d) ≤ i → Rests d i pending text → IsTextOfTree d text
all_written d i pending text is stands once sizes enough r = go r.trees refl
  where
    most : branch_size r.whole ≤ length (finmap.entries d)
    most =
        let ids = branch_ids r.whole in let lives : (q : ObjId) → Contains ids q → live d q ≡ true = λ q h. below_live ((stands d r.whole r.fits q).0 h) in
        omega (arith, few ids d (once d r.whole is r.fits) lives, sizes r.whole, finmap.len-entries d)

    go : (ps : List (ℕ × Branch)) → r.trees ≡ ps → IsTextOfTree d text
    go [] f = record { tree = r.whole; shown = r.fits; text = sym (r.written ∙ ap (λ v. text ++ flat_map text_at v) f ∙ append-nil text) }
    go (p ∷ ps) f = absurd (omega (arith, most, enough, r.count, ap total f))
