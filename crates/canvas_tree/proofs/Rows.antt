-- The objects of a document and their parents: who is live, and that the tree below an object has less room than the tree at it.
use Rattle.std.proofs.Common.{◌≡◌, ◌⊎◌, ℕ, suc, ◌-◌, ◌<◌, List, [], ◌∷◌, length, refl, sym, ◌∙◌, ap, subst, inl, inr, arith}
use Rattle.std.specs.Prelude.{Option, None, Some, true, false, cond, is_some, map}
use Rattle.std.specs.Option.{option_and_then, option_map}
use Rattle.std.specs.Ordering.{is_eq}
use Rattle.std.specs.declared.cmp.Ordering.TheVariants.{Less, Equal, Greater}
use Rattle.std.specs.FinMap as finmap
use Rattle.canvas_model.specs.declared.ObjId.{ObjId}
use Rattle.canvas_model.specs.Ids.{id_cmp, root}
use Rattle.canvas_model.specs.Document.{Doc, Object, IsDocument, live, kind_of}
use Rattle.canvas_model.specs.Chain.{Below, itself, through, InTree}
use Rattle.canvas_model.specs.Children.{parent_of}
use Rattle.canvas_model.proofs.Children.{child_place}
use Rattle.canvas_model.proofs.Ids.{id_apart}
use Rattle.canvas_doc.proofs.Levels.{root_alive}
use Rattle.canvas_tree.proofs.Members.{IsIn}
use Rattle.canvas_tree.proofs.Climbs.{IsClimb, climb, climb_is, climb_short}

pub some_or_none : {X : Type 0} (o : Option X) → ((x : X) × (o ≡ Some x)) ⊎ (o ≡ None)
some_or_none None = inr refl
some_or_none (Some x) = inl (x, refl)

-- ---- who is live

pub object_there : (d : Doc) (q : ObjId) → live d q ≡ true → (o : Object) × (finmap.get d q ≡ Some o)
object_there d q h = elim (some_or_none (finmap.get d q)) [ inl s ↦ s | inr n ↦ absurd (let e : live d q ≡ false = ap is_some n in cc) ]

pub object_of_child : (d : Doc) (q p : ObjId) → parent_of d q ≡ Some p → (o : Object) × (finmap.get d q ≡ Some o)
object_of_child d q p e = elim (some_or_none (finmap.get d q)) [
  | inl s ↦ s
  | inr n ↦ absurd (let f : None ≡ Some p = sym (ap (λ o. option_map (λ p. p.parent) (option_and_then (λ o. o.place) o)) n) ∙ e in cc f)
]

pub child_live : (d : Doc) (q p : ObjId) → parent_of d q ≡ Some p → live d q ≡ true
child_live d q p e = ap is_some (object_of_child d q p e).1

pub root_top : (d : Doc) → IsDocument d → parent_of d root ≡ None
root_top d h = ap (option_map (λ p. p.parent)) h.root_place

-- the ids of all live objects
abbrev pub everyone : Doc → List ObjId
everyone d = map (λ e. e.0) (finmap.entries d)

listed : (es : List (ObjId × Object)) (q : ObjId) (o : Object) → finmap.find id_cmp q es ≡ Some o → IsIn q (map (λ e. e.0) es)
listed [] q o e = absurd (let f : None ≡ Some o = e in cc f)
listed (f ∷ es) q o e =
    (elim (id_cmp q f.0) as (λ r. id_cmp q f.0 ≡ r → cond (is_eq r) (Some f.1) (finmap.find id_cmp q es) ≡ Some o → IsIn q (f.0 ∷ map (λ e. e.0) es)) [
      | Less ↦ λ c e. inr (listed es q o e)
      | Equal ↦ λ c e. inl (id_apart q f.0 c)
      | Greater ↦ λ c e. inr (listed es q o e)
    ]) refl e

pub live_listed : (d : Doc) (q : ObjId) → live d q ≡ true → IsIn q (everyone d)
live_listed d q h = let o = object_there d q h in listed (finmap.entries d) q o.0 (sym (finmap.get-entries d q) ∙ o.1)

length_everyone : (es : List (ObjId × Object)) → length (map (λ e. e.0) es) ≡ length es
length_everyone [] = refl
length_everyone (e ∷ es) = ap suc (length_everyone es)

-- ---- in the tree

pub child_below : (d : Doc) (q p o : ObjId) → parent_of d q ≡ Some p → Below d p o → Below d q o
child_below d q p o e h = let s = child_place d q p e in through s.0 s.1 (subst (λ v. Below d v o) (sym s.2) h)

pub climb_of : {d : Doc} {q o : ObjId} → Below d q o → (ps : List ObjId) × IsClimb (parent_of d) o q ps
climb_of (itself h) = ([], refl)
climb_of (through place is up) = let c = climb_of up in (place.parent ∷ c.0, (ap (option_map (λ p. p.parent)) is, c.1))

-- how many parents more an object could have above it
abbrev pub room_below : Doc → ObjId → ℕ
room_below d q = length (finmap.entries d) - length (climb (parent_of d) (length (finmap.entries d)) (parent_of d q))

pub room_falls : (d : Doc) (p q : ObjId) → IsDocument d → InTree d p → parent_of d q ≡ Some p → room_below d q < room_below d p
room_falls d p q is h e =
    let c = climb_of h in
    let n = length_everyone (finmap.entries d) in
    let top = root_top d is in
    let s : length (p ∷ c.0) < length (everyone d) = climb_short (parent_of d) root top (everyone d) (λ q p f. live_listed d q (child_live d q p f)) (live_listed d root (root_alive d is)) q (p ∷ c.0) (e, c.1) in
    let up : climb (parent_of d) (length (finmap.entries d)) (parent_of d p) ≡ c.0 = climb_is (parent_of d) root top (length (finmap.entries d)) p c.0 c.1 (omega (arith, s, n)) in
    let on : climb (parent_of d) (length (finmap.entries d)) (parent_of d q) ≡ p ∷ c.0 = climb_is (parent_of d) root top (length (finmap.entries d)) q (p ∷ c.0) (e, c.1) (omega (arith, s, n)) in
    omega (arith, s, n, ap length up, ap length on)
