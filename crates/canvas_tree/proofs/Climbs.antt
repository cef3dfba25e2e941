-- The parents above a thing, one after another: a climb to the root is the only one, and repeats nothing.
use Rattle.std.proofs.Common.{◌≡◌, ℕ, zero, suc, ◌<◌, ◌≤◌, List, [], ◌∷◌, length, refl, sym, ◌∙◌, ap, subst, inl, inr, arith}
use Rattle.std.specs.Prelude.{Option, None, Some}
use Rattle.canvas_tree.proofs.Members.{IsIn, Distinct, no_fewer}

module _ {X : Type 0} (parent : X → Option X) where
  -- the parents of q are these, and the last of them (or q) is the root
  abbrev pub IsClimb : X → X → List X → Type 0
  IsClimb root q [] = q ≡ root
  IsClimb root q (p ∷ ps) = (parent q ≡ Some p) × IsClimb root p ps

  -- a thing and the parents above it, n of them at most
  abbrev pub climb : ℕ → Option X → List X
  climb n None = []
  climb zero (Some p) = []
  climb (suc n) (Some p) = p ∷ climb n (parent p)

  module _ (root : X) (top : parent root ≡ None) where
    pub climb_one : (q : X) (ps qs : List X) → IsClimb root q ps → IsClimb root q qs → ps ≡ qs
    climb_one q [] [] h k = refl
    climb_one q [] (p ∷ ps) h k = let e : parent q ≡ None = ap parent h ∙ top in absurd (cc (e, k.0))
    climb_one q (p ∷ ps) [] h k = let e : parent q ≡ None = ap parent k ∙ top in absurd (cc (e, h.0))
    climb_one q (p ∷ ps) (r ∷ rs) h k =
        let e : r ≡ p = cc (h.0, k.0) in
        let t : ps ≡ rs = climb_one p ps rs h.1 (subst (λ v. IsClimb root v rs) e k.1) in
        cc (e, t)

    -- what stands on the climb has a shorter one
    climb_from : (q : X) (ps : List X) (x : X) → IsClimb root q ps → IsIn x ps → (rs : List X) × IsClimb root x rs × (length rs < length ps)
    climb_from q [] x h k = absurd k
    climb_from q (p ∷ ps) x h (inl e) = (ps, subst (λ v. IsClimb root v ps) (sym e) h.1, omega arith)
    climb_from q (p ∷ ps) x h (inr k) = let s = climb_from p ps x h.1 k in (s.0, s.1, omega (arith, s.2))

    climb_fresh : (q : X) (ps : List X) → IsClimb root q ps → IsIn q ps → ⊥
    climb_fresh q ps h k =
        let s = climb_from q ps q h k in
        let e : s.0 ≡ ps = climb_one q s.0 ps s.1 h in
        omega (arith, s.2, ap length e)

    climb_distinct : (q : X) (ps : List X) → IsClimb root q ps → Distinct (q ∷ ps)
    climb_distinct q [] h = (λ k. k, tt)
    climb_distinct q (p ∷ ps) h = (climb_fresh q (p ∷ ps) h, climb_distinct p ps h.1)

    pub climb_is : (n : ℕ) (q : X) (ps : List X) → IsClimb root q ps → length ps ≤ n → climb n (parent q) ≡ ps
    climb_is n q [] h k = rw (ap parent h ∙ top) refl
    climb_is zero q (p ∷ ps) h k = absurd (omega (arith, k))
    climb_is (suc n) q (p ∷ ps) h k = rw h.0 (ap (λ v. p ∷ v) (climb_is n p ps h.1 (omega (arith, k))))

    -- all that stands on a climb is alive where each thing with a parent is, and the root
    module _ (alive : List X) (live : (q p : X) → parent q ≡ Some p → IsIn q alive) (first : IsIn root alive) where
      climb_alive : (q : X) (ps : List X) → IsClimb root q ps → (z : X) → IsIn z (q ∷ ps) → IsIn z alive
      climb_alive q [] h z (inl e) = subst (λ v. IsIn v alive) (sym (e ∙ h)) first
      climb_alive q [] h z (inr k) = absurd k
      climb_alive q (p ∷ ps) h z (inl e) = subst (λ v. IsIn v alive) (sym e) (live q p h.0)
      climb_alive q (p ∷ ps) h z (inr k) = climb_alive p ps h.1 z k

      pub climb_short : (q : X) (ps : List X) → IsClimb root q ps → length ps < length alive
      climb_short q ps h =
          let k : length (q ∷ ps) ≤ length alive = no_fewer (q ∷ ps) alive (climb_distinct q ps h) (climb_alive q ps h) in
          omega (arith, k)
