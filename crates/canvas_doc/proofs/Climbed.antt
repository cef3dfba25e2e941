-- A climb from parent to parent, and the steps that it takes.
use Rattle.std.proofs.Common.{◌≡◌, ◌≢◌, ◌⊎◌, inl, inr, ℕ, zero, suc, ◌+◌, ◌-◌, ◌≤◌, ◌<◌, Bool, true, false, cond, Some, None, refl, sym, ap, subst, ◌∙◌, arith}
use Rattle.std.specs.Prelude.{is_some, nat_eq, ◌&&◌}
use Rattle.std.proofs.lemmas.Bool.Decides.{nat_tests}
use Rattle.std.specs.Option.{option_and_then}
use Rattle.std.specs.FinMap as map
use Rattle.std.proofs.lemmas.Bool.{cases_eq}
use Rattle.canvas_model.specs.declared.ObjId.{ObjId}
use Rattle.canvas_model.specs.Ids.{id_cmp, same_id}
use Rattle.canvas_model.specs.Document.{Doc, Object, Place, live, place_of}
use Rattle.canvas_model.specs.Chain.{Below, itself, through}
use Rattle.canvas_model.proofs.Ids.{id_total, id_dec, same_id_true}
use Rattle.canvas_model.proofs.Trees.{below_live}

-- ids that aren't told to be one differ
pub differing : (a b : ObjId) (r : Bool) → r ≡ (nat_eq a.client b.client && nat_eq a.counter b.counter) → r ≡ false → a ≢ b
differing a b r is not_true same =
    let clients : a.client ≡ b.client = ap (λ (i : ObjId). i.client) same in
    let counters : a.counter ≡ b.counter = ap (λ (i : ObjId). i.counter) same in
    grind (arith, nat_tests)

-- fewer than n steps lead from q to o, by a chain of parents
abbrev pub Reaches : Doc → ℕ → ObjId → ObjId → Type 0
Reaches d zero q o = ⊥
Reaches d (suc n) q o = (q ≡ o) ⊎ ((place : Place) × (place_of d q ≡ Some place) × Reaches d n place.parent o)

-- the document without one object
pub get-other : (d : Doc) (x q : ObjId) → q ≢ x → map.get (map.remove d x) q ≡ map.get d q
get-other d x q ne = map.get-remove id_total d x q ∙ go (same_id q x) refl
  where
    go : (b : Bool) → same_id q x ≡ b → cond b None (map.get d q) ≡ map.get d q
    go true e = absurd (ne (same_id_true q x e))
    go false e = refl

-- what is left was there
left-there : (d : Doc) (x q : ObjId) (place : Place) → place_of (map.remove d x) q ≡ Some place → place_of d q ≡ Some place
left-there d x q place is = go (same_id q x) refl
  where
    go : (b : Bool) → same_id q x ≡ b → place_of d q ≡ Some place
    go true e = absurd (let gone : None ≡ Some place = sym (ap (option_and_then (λ (o : Object). o.place)) (map.get-remove id_total d x q ∙ ap (λ b. cond b None (map.get d q)) e)) ∙ is in cc)
    go false e = sym (ap (option_and_then (λ (o : Object). o.place)) (map.get-remove id_total d x q ∙ ap (λ b. cond b None (map.get d q)) e)) ∙ is

not-left : (d : Doc) (x : ObjId) → live (map.remove d x) x ≡ true → ⊥
not-left d x alive = let gone : live (map.remove d x) x ≡ false = ap is_some (map.get-remove id_total d x x ∙ ap (λ b. cond b None (map.get d x)) (Rattle.canvas_model.proofs.Ids.id_itself x)) in let f : ⊥ = cc in f

reaches-there : (d : Doc) (x : ObjId) (n : ℕ) (q o : ObjId) → Reaches (map.remove d x) n q o → Reaches d n q o
reaches-there d x zero q o r = r
reaches-there d x (suc n) q o (inl e) = inl e
reaches-there d x (suc n) q o (inr (place, is, r)) = inr (place, left-there d x q place is, reaches-there d x n place.parent o r)

-- a chain that doesn't come past x, or what follows the last time that it does
past : (d : Doc) (x q o : ObjId) → x ≢ o → Below d q o → Below (map.remove d x) q o ⊎ ((place : Place) × (place_of d x ≡ Some place) × Below (map.remove d x) place.parent o)
past d x q o ne (itself alive) = inl (itself (ap is_some (get-other d x o (λ e. ne (sym e))) ∙ alive))
past d x q o ne (through place is up) = go (past d x place.parent o ne up) (id_dec q x)
  where
    go : Below (map.remove d x) place.parent o ⊎ ((place : Place) × (place_of d x ≡ Some place) × Below (map.remove d x) place.parent o) → Dec (q ≡ x)
        → Below (map.remove d x) q o ⊎ ((place : Place) × (place_of d x ≡ Some place) × Below (map.remove d x) place.parent o)
    go (inr later) same = inr later
    go (inl rest) (yes e) = inr (place, subst (λ y. place_of d y ≡ Some place) e is, rest)
    go (inl rest) (no other) = inl (through place (ap (option_and_then (λ (o : Object). o.place)) (get-other d x q other) ∙ is) rest)

-- without an object that it has, a document has one fewer
pub one-fewer : (d : Doc) (q : ObjId) → live d q ≡ true → map.len d ≡ suc (map.len (map.remove d q))
one-fewer d q alive =
    let left : map.len (map.remove d q) ≡ map.len d - 1 = map.len-remove id_total d q ∙ ap (λ b. cond b (map.len d - 1) (map.len d)) alive in
    let some : 0 < map.len d = elim (cases_eq (map.len d) 0) as (λ _. 0 < map.len d) [
      | inl e ↦ let gone : live d q ≡ false = ap (λ m. is_some (map.get m q)) (map.empty_of_len d e) ∙ ap is_some (map.get-empty id_cmp q) in absurd (let f : ⊥ = cc in f)
      | inr ne ↦ omega arith
    ] in
    omega arith

-- a chain need not be longer than the document
pub short : (n : ℕ) (d : Doc) (q o : ObjId) → map.len d ≤ n → Below d q o → Reaches d n q o
short zero d q o few b = absurd (omega (arith, one-fewer d q (below_live b)))
short (suc n) d q o few b = go (id_dec q o) (λ place up. short n (map.remove d q) place.parent o (omega (arith, one-fewer d q (below_live b))) up)
  where
    on : ((place : Place) → Below (map.remove d q) place.parent o → Reaches (map.remove d q) n place.parent o)
        → Below (map.remove d q) q o ⊎ ((place : Place) × (place_of d q ≡ Some place) × Below (map.remove d q) place.parent o) → Reaches d (suc n) q o
    on rest (inl b) = absurd (not-left d q (below_live b))
    on rest (inr (place, is, up)) = inr (place, is, reaches-there d q n place.parent o (rest place up))

    go : Dec (q ≡ o) → ((place : Place) → Below (map.remove d q) place.parent o → Reaches (map.remove d q) n place.parent o) → Reaches d (suc n) q o
    go (yes e) rest = inl e
    go (no ne) rest = on rest (past d q q o ne b)

module _ (d : Doc) (q o : ObjId) where
  -- the climb starts
  pub climb_starts : (n : ℕ) → n ≡ map.len d → Below d q o → Reaches d n q o
  climb_starts n is b = short n d q o (omega (arith, is)) b

  module _ (at : ObjId) (n k : ℕ) (within : k < n) (reached : Below d q o → Reaches d (n - k) at o) (elsewhere : at ≢ o) where
    next : (m : ℕ) → n - k ≡ suc m → Below d q o → (place : Place) × (place_of d at ≡ Some place) × Reaches d m place.parent o
    next m is b = by (subst (λ j. Reaches d j at o) is (reached b))
      where
        by : Reaches d (suc m) at o → (place : Place) × (place_of d at ≡ Some place) × Reaches d m place.parent o
        by (inl e) = absurd (elsewhere e)
        by (inr r) = r

    -- it goes on
    pub climb_more : (place : Place) → place_of d at ≡ Some place → Below d q o → Reaches d (n - (k + 1)) place.parent o
    climb_more place is b =
        let r = next (n - (k + 1)) (omega arith) b in
        let same : r.0 ≡ place = cc (r.1, is) in
        subst (λ (p : Place). Reaches d (n - (k + 1)) p.parent o) same r.2

    -- it ends where there is no place
    pub climb_ends : place_of d at ≡ None → Below d q o → ⊥
    climb_ends none b = let r = next (n - (k + 1)) (omega arith) b in let f : None ≡ Some r.0 = sym none ∙ r.1 in let no : ⊥ = cc in no

  -- it has an end
  pub climb_done : (at : ObjId) (n k : ℕ) → n ≤ k → (Below d q o → Reaches d (n - k) at o) → Below d q o → ⊥
  climb_done at n k past reached b = let zero_left : n - k ≡ 0 = omega arith in subst (λ j. Reaches d j at o) zero_left (reached b)
