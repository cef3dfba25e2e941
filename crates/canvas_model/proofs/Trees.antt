-- Chains of parents.
use Rattle.std.proofs.Common.{◌≡◌, refl, ap, subst}
use Rattle.std.specs.Prelude.{◌≢◌, true, Option, Some, None, is_some}
use Rattle.std.specs.Option.{option_and_then}
use Rattle.std.specs.FinMap as map
use Rattle.canvas_model.specs.declared.ObjId.{ObjId}
use Rattle.canvas_model.specs.Ids.{root}
use Rattle.canvas_model.specs.Document.{Doc, Object, IsDocument, live, place_of, Place}
use Rattle.canvas_model.specs.Chain.{Below, itself, through, IsCycle}
use Rattle.canvas_model.specs.State.{State, IsSound}

-- what has a chain is live
pub live_of_place : (d : Doc) (q : ObjId) (place : Place) (x : Option Object) → map.get d q ≡ x → place_of d q ≡ Some place → live d q ≡ true
live_of_place d q place None e h = absurd (let a = ap (λ y. option_and_then (λ (o : Object). o.place) y) e in cc)
live_of_place d q place (Some o) e h = ap is_some e

pub below_live : {d : Doc} {q o : ObjId} → Below d q o → live d q ≡ true
below_live (itself h) = h
below_live {d} {q} (through place is up) = live_of_place d q place (map.get d q) refl is

pub below_trans : {d : Doc} {q o r : ObjId} → Below d q o → Below d o r → Below d q r
below_trans (itself h) b = b
below_trans (through place is up) b = through place is (below_trans up b)

pub below_end : {d : Doc} {q o : ObjId} → Below d q o → live d o ≡ true
below_end (itself h) = h
below_end (through place is up) = below_end up

one_place : (d : Doc) (q : ObjId) (p r : Place) → place_of d q ≡ Some p → place_of d q ≡ Some r → p ≡ r
one_place d q p r a b = cc

-- on a cycle, so is the parent
turn : (d : Doc) (q : ObjId) (place : Place) → place_of d q ≡ Some place → live d place.parent ≡ true → IsCycle d q → IsCycle d place.parent
turn d q place is alive (other, at, back) = go place.parent refl (subst (λ p. Below d (Place.parent p) q) (one_place d q other place at is) back)
  where
    step : Below d q place.parent
    step = through place is (itself alive)

    go : (p : ObjId) → p ≡ place.parent → Below d p q → IsCycle d place.parent
    go p e (itself h) = subst (λ x. IsCycle d x) e (other, at, back)
    go p e (through next here up) = (next, subst (λ x. place_of d x ≡ Some next) e here, below_trans up step)

pub root_place : (s : State) → IsSound s → place_of s.doc root ≡ None
root_place s sound = (sound.at_root).1

pub no_cycle : (s : State) → IsSound s → (q r : ObjId) → Below s.doc q r → r ≡ root → IsCycle s.doc q → ⊥
no_cycle s sound q r (itself h) e c = let a = root_place s sound in let b = subst (λ x. place_of s.doc x ≡ Some c.0) e c.1 in cc
no_cycle s sound q r (through place is up) e c = no_cycle s sound place.parent r up e (turn s.doc q place is (below_live up) c)

-- what is in the tree and isn't the root has a place
placed : {d : Doc} {q o : ObjId} → Below d q o → o ≡ root → q ≢ root → (place : Place) × (place_of d q ≡ Some place)
placed (itself h) e apart = absurd (apart e)
placed (through place is up) e apart = (place, is)

-- a sound state's document is one
pub document_of : (s : State) → IsSound s → IsDocument s.doc
document_of s h = record { root_kind = h.at_root.0; root_place = h.at_root.1; others = λ q apart here. placed (h.in_tree q here) refl apart }
