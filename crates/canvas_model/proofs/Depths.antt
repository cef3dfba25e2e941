-- How many steps lead from an object to one above it.
use Rattle.std.proofs.Common.{◌≡◌, ◌≢◌, ℕ, zero, suc, ◌+◌, ◌≤◌, ◌<◌, refl, ap, sym, ◌∙◌, subst, arith}
use Rattle.std.specs.Prelude.{true, Option, Some, None}
use Rattle.canvas_model.specs.declared.ObjId.{ObjId}
use Rattle.canvas_model.specs.Ids.{root}
use Rattle.canvas_model.specs.Document.{Doc, live, place_of, Place}
use Rattle.canvas_model.specs.Chain.{Below}
use Rattle.canvas_model.specs.Chain as chain
use Rattle.canvas_model.specs.Depth.{LiesBelow, itself, through, HasDepth, IsTooDeepUnder}

-- the steps are those of a chain
pub steps_below : {d : Doc} {n : ℕ} {q o : ObjId} → LiesBelow d n q o → Below d q o
steps_below (itself h) = chain.itself h
steps_below (through place is up) = chain.through place is (steps_below up)

pub below_steps : {d : Doc} {q o : ObjId} → Below d q o → (n : ℕ) × LiesBelow d n q o
below_steps (chain.itself h) = (0, itself h)
below_steps (chain.through place is up) = let rest = below_steps up in (suc rest.0, through place is rest.1)

pub steps_end : {d : Doc} {n : ℕ} {q o : ObjId} → LiesBelow d n q o → live d o ≡ true
steps_end (itself h) = h
steps_end (through place is up) = steps_end up

-- no step leads on from what has no place
pub no_steps : (d : Doc) (q : ObjId) → place_of d q ≡ None → {n : ℕ} {p o : ObjId} → p ≡ q → LiesBelow d n p o → n ≡ 0
no_steps d q none same (itself h) = refl
no_steps d q none {p = p} same (through place is up) = absurd (let e : place_of d p ≡ None = ap (place_of d) same ∙ none in cc)

-- steps after steps
pub steps_more : {d : Doc} {n m : ℕ} {q o r : ObjId} → LiesBelow d n q o → LiesBelow d m o r → LiesBelow d (n + m) q r
steps_more {d} {m = m} {q = q} {r = r} (itself h) up = subst (λ k. LiesBelow d k q r) (omega arith) up
steps_more {d} {m = m} {q = q} {r = r} (through {n} place is on) up = subst (λ k. LiesBelow d k q r) (let e : suc (n + m) ≡ suc n + m = omega arith in e) (through place is (steps_more on up))

-- what has no place is reached in one number of steps alone
pub one_number : (d : Doc) (o : ObjId) → place_of d o ≡ None → {n m : ℕ} {q p r : ObjId} → LiesBelow d n q p → p ≡ o → LiesBelow d m q r → r ≡ o → n ≡ m
one_number d o none (itself h) same other end = sym (no_steps d o none same other)
one_number d o none {q = q} (through place is up) same (itself h) end = absurd (let e : place_of d q ≡ None = ap (place_of d) end ∙ none in cc)
one_number d o none {q = q} (through {n} place is up) same (through {n = m} {o = r} next here on) end =
    let one : place ≡ next = cc (is, here) in
    ap suc (one_number d o none up same (subst (λ (p : Place). LiesBelow d m p.parent r) (sym one) on) end)

-- under the root nothing new stands too deep
pub root_shallow : (d : Doc) → place_of d root ≡ None → IsTooDeepUnder d root → ⊥
root_shallow d none (depth, at, far) = let zero_deep = no_steps d root none refl at in omega (arith, far, zero_deep)
