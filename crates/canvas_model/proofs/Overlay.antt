-- What an overlay answers at each object.
use Rattle.std.proofs.Common.{◌≡◌, ◌⊎◌, ℕ, zero, suc, List, [], ◌∷◌, ◌++◌, refl, ap, sym, ◌∙◌}
use mathlib.Core.Logic.{inl, inr}
use Rattle.std.specs.Prelude.{Bool, true, false, cond, Option, Some, None, is_some}
use Rattle.std.specs.FinMap as map
use Rattle.canvas_model.specs.declared.ObjId.{ObjId}
use Rattle.canvas_model.specs.Ids.{same_id}
use Rattle.canvas_model.specs.declared.Kind.{Kind}
use Rattle.canvas_model.specs.Document.{Object, Doc, Place, live, revise}
use Rattle.canvas_model.specs.Change.{Change, Create, Set, Move, Delete, object_of}
use Rattle.canvas_model.specs.Overlay.{laid, is_idle, lay, over}
use Rattle.canvas_model.specs.Numbered.{nth}
use Rattle.canvas_model.specs.Good.{IsCreation}
use Rattle.canvas_model.proofs.Ids.{same_id_true, get-revise}

-- the change at one object
abbrev pub lay_at : ObjId → Change → Option Object → Option Object
lay_at q change x = cond (is_idle change) x (cond (same_id q (object_of change)) (laid change x) x)

pub get-lay : (d : Doc) (change : Change) (q : ObjId) → map.get (lay d change) q ≡ lay_at q change (map.get d q)
get-lay d change q = outer (is_idle change)
  where
    inner : (b : Bool) → same_id q (object_of change) ≡ b → cond b (laid change (map.get d (object_of change))) (map.get d q) ≡ cond b (laid change (map.get d q)) (map.get d q)
    inner true e = ap (λ x. laid change (map.get d x)) (sym (same_id_true q (object_of change) e))
    inner false e = refl

    outer : (b : Bool) → map.get (cond b d (revise d (object_of change) (laid change (map.get d (object_of change))))) q ≡ cond b (map.get d q) (cond (same_id q (object_of change)) (laid change (map.get d q)) (map.get d q))
    outer true = refl
    outer false = get-revise d (object_of change) (laid change (map.get d (object_of change))) q ∙ inner (same_id q (object_of change)) refl

abbrev pub over_at : ObjId → List Change → Option Object → Option Object
over_at q [] x = x
over_at q (change ∷ changes) x = over_at q changes (lay_at q change x)

pub get-over : (d : Doc) (changes : List Change) (q : ObjId) → map.get (over d changes) q ≡ over_at q changes (map.get d q)
get-over d [] q = refl
get-over d (change ∷ changes) q = get-over (lay d change) changes q ∙ ap (over_at q changes) (get-lay d change q)

pub over-append : (d : Doc) (xs : List Change) (change : Change) → over d (xs ++ change ∷ []) ≡ lay (over d xs) change
over-append d [] change = refl
over-append d (x ∷ xs) change = over-append (lay d x) xs change

-- an object that the overlay shows was there, or one of the changes creates it
pub record CreatedBy (changes : List Change) (q : ObjId) : Type 0 where
  pub place : ℕ
  pub is : IsCreation (nth changes place) q

lay_live : (q : ObjId) (change : Change) (x : Option Object) → is_some (lay_at q change x) ≡ true → (is_some x ≡ true) ⊎ ((kind : Kind) × (place : Place) × (change ≡ Create q kind place))
lay_live q change (Some o) h = inl refl
lay_live q change None h = outer (is_idle change) refl h
  where
    made : (c : Change) → same_id q (object_of c) ≡ true → is_some (laid c None) ≡ true → (kind : Kind) × (place : Place) × (c ≡ Create q kind place)
    made (Create id kind place) e h = (kind, place, ap (λ i. Create i kind place) (sym (same_id_true q id e)))
    made (Set id name value) e h = absurd (cc)
    made (Move id place) e h = absurd (cc)
    made (Delete id) e h = absurd (cc)

    inner : (b : Bool) → same_id q (object_of change) ≡ b → is_some (cond b (laid change None) None) ≡ true → (is_some {T = Object} None ≡ true) ⊎ ((kind : Kind) × (place : Place) × (change ≡ Create q kind place))
    inner true e h = inr (made change e h)
    inner false e h = absurd (cc)

    outer : (b : Bool) → is_idle change ≡ b → is_some (cond b None (cond (same_id q (object_of change)) (laid change None) None)) ≡ true → (is_some {T = Object} None ≡ true) ⊎ ((kind : Kind) × (place : Place) × (change ≡ Create q kind place))
    outer true e h = absurd (cc)
    outer false e h = inner (same_id q (object_of change)) refl h

live_over_at : (q : ObjId) (changes : List Change) (x : Option Object) → is_some (over_at q changes x) ≡ true → (is_some x ≡ true) ⊎ CreatedBy changes q
live_over_at q [] x h = inl h
live_over_at q (change ∷ changes) x h = first (live_over_at q changes (lay_at q change x) h)
  where
    now : (is_some x ≡ true) ⊎ ((kind : Kind) × (place : Place) × (change ≡ Create q kind place)) → (is_some x ≡ true) ⊎ CreatedBy (change ∷ changes) q
    now (inl a) = inl a
    now (inr a) = inr (record { place = 1; is = (a.0, a.1, ap Some a.2) })

    later : CreatedBy changes q → (n : ℕ) → IsCreation (nth changes n) q → (is_some x ≡ true) ⊎ CreatedBy (change ∷ changes) q
    later c zero is = absurd (let e = is.2 in cc)
    later c (suc n) is = inr (record { place = suc (suc n); is = is })

    first : (is_some (lay_at q change x) ≡ true) ⊎ CreatedBy changes q → (is_some x ≡ true) ⊎ CreatedBy (change ∷ changes) q
    first (inl a) = now (lay_live q change x a)
    first (inr c) = later c c.place c.is

pub live_over : (d : Doc) (changes : List Change) (q : ObjId) → live (over d changes) q ≡ true → (live d q ≡ true) ⊎ CreatedBy changes q
live_over d changes q h = live_over_at q changes (map.get d q) (ap is_some (sym (get-over d changes q)) ∙ h)
