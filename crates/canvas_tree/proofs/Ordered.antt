-- Lists in strict order: one thing more is put among them, and only one such list has the same members.
use Rattle.std.proofs.Common.{◌≡◌, ◌⊎◌, List, [], ◌∷◌, refl, sym, ap, subst, ◌∙◌, inl, inr}
use Rattle.std.specs.declared.cmp.Ordering.{Ordering}
use Rattle.std.specs.declared.cmp.Ordering.TheVariants.{Less, Equal, Greater}
use Rattle.std.specs.Ordering.{ordering_reverse}
use Rattle.std.specs.List.{AllByRecursion}
use Rattle.std.specs.List.Sorted.{IsStrictlySortedBy}
use Rattle.std.specs.Cmp.{IsTotalOrder}
use Rattle.canvas_tree.proofs.Members.{IsIn, Distinct}

abbrev put_by : {X : Type 0} → Ordering → X → X → List X → List X → List X
put_by Less x y ys more = y ∷ more
put_by Equal x y ys more = y ∷ ys
put_by Greater x y ys more = x ∷ y ∷ ys

-- x where it belongs, unless its equal is there
abbrev pub put : {X : Type 0} → (X → X → Ordering) → X → List X → List X
put R x [] = x ∷ []
put R x (y ∷ ys) = put_by (R y x) x y ys (put R x ys)

all_in : {X : Type 0} (P : X → Type 0) (xs : List X) → AllByRecursion P xs → (x : X) → IsIn x xs → P x
all_in P [] a x h = absurd h
all_in P (y ∷ ys) a x (inl e) = subst P (sym e) a.0
all_in P (y ∷ ys) a x (inr h) = all_in P ys a.1 x h

module _ {X : Type 0} (R : X → X → Ordering) (o : IsTotalOrder R) where
  all_put : (P : X → Type 0) (x : X) (ys : List X) → P x → AllByRecursion P ys → AllByRecursion P (put R x ys)
  all_put P x [] p a = (p, tt)
  all_put P x (y ∷ ys) p a =
      elim (R y x) as (λ o. AllByRecursion P (put_by o x y ys (put R x ys))) [ Less ↦ (a.0, all_put P x ys p a.1) | Equal ↦ a | Greater ↦ (p, a) ]

  all_less : (x y : X) → R x y ≡ Less → (ys : List X) → AllByRecursion (λ z. R y z ≡ Less) ys → AllByRecursion (λ z. R x z ≡ Less) ys
  all_less x y e [] a = tt
  all_less x y e (z ∷ ys) a = (o.trans x y z e a.0, all_less x y e ys a.1)

  pub put_sorted : (x : X) (ys : List X) → IsStrictlySortedBy R ys → IsStrictlySortedBy R (put R x ys)
  unfolding IsStrictlySortedBy
  put_sorted x [] s = (tt, tt)
  put_sorted x (y ∷ ys) s =
      (elim (R y x) as (λ r. R y x ≡ r → IsStrictlySortedBy R (put_by r x y ys (put R x ys))) [
        | Less ↦ λ e. (all_put (λ z. R y z ≡ Less) x ys e s.0, put_sorted x ys s.1)
        | Equal ↦ λ e. s
        | Greater ↦ λ e. let f : R x y ≡ Less = o.antisymm x y ∙ ap ordering_reverse e in ((f, all_less x y f ys s.0), s)
      ]) refl

  pub put_in : (x : X) (ys : List X) (z : X) → IsIn z (put R x ys) → (z ≡ x) ⊎ IsIn z ys
  put_in x [] z h = h
  put_in x (y ∷ ys) z h =
      (elim (R y x) as (λ r. IsIn z (put_by r x y ys (put R x ys)) → (z ≡ x) ⊎ IsIn z (y ∷ ys)) [
        | Less ↦ λ k. elim k [ inl e ↦ inr (inl e) | inr m ↦ elim (put_in x ys z m) [ inl e ↦ inl e | inr n ↦ inr (inr n) ] ]
        | Equal ↦ λ k. inr k
        | Greater ↦ λ k. k
      ]) h

  pub put_keeps : (x : X) (ys : List X) (z : X) → IsIn z ys → IsIn z (put R x ys)
  put_keeps x [] z h = absurd h
  put_keeps x (y ∷ ys) z h =
      elim (R y x) as (λ r. IsIn z (put_by r x y ys (put R x ys))) [
        | Less ↦ elim h [ inl e ↦ inl e | inr m ↦ inr (put_keeps x ys z m) ]
        | Equal ↦ h
        | Greater ↦ inr h
      ]

  pub put_there : ((a b : X) → R a b ≡ Equal → a ≡ b) → (x : X) (ys : List X) → IsIn x (put R x ys)
  put_there same x [] = inl refl
  put_there same x (y ∷ ys) =
      (elim (R y x) as (λ r. R y x ≡ r → IsIn x (put_by r x y ys (put R x ys))) [
        | Less ↦ λ e. inr (put_there same x ys)
        | Equal ↦ λ e. inl (sym (same y x e))
        | Greater ↦ λ e. inl refl
      ]) refl

  pub sorted_none : IsStrictlySortedBy R []
  unfolding IsStrictlySortedBy
  sorted_none = tt

  both_less : (x y : X) → R x y ≡ Less → R y x ≡ Less → ⊥
  both_less x y e f = let g : Less ≡ ordering_reverse Less = sym e ∙ o.antisymm x y ∙ ap ordering_reverse f in cc g

  pub sorted_distinct : (xs : List X) → IsStrictlySortedBy R xs → Distinct xs
  unfolding IsStrictlySortedBy
  sorted_distinct [] s = tt
  sorted_distinct (x ∷ xs) s = (λ h. let e : R x x ≡ Less = all_in (λ z. R x z ≡ Less) xs s.0 x h in both_less x x e e, sorted_distinct xs s.1)

  pub sorted_one : (xs ys : List X) → IsStrictlySortedBy R xs → IsStrictlySortedBy R ys → ((z : X) → IsIn z xs → IsIn z ys) → ((z : X) → IsIn z ys → IsIn z xs) → xs ≡ ys
  unfolding IsStrictlySortedBy
  sorted_one [] [] s t f g = refl
  sorted_one [] (y ∷ ys) s t f g = absurd (g y (inl refl))
  sorted_one (x ∷ xs) [] s t f g = absurd (f x (inl refl))
  sorted_one (x ∷ xs) (y ∷ ys) s t f g =
      let first : x ≡ y =
      elim (f x (inl refl)) [
        | inl e ↦ e
        | inr h ↦ elim (g y (inl refl)) [
          | inl e ↦ sym e
          | inr k ↦ absurd (both_less x y (all_in (λ z. R x z ≡ Less) xs s.0 y k) (all_in (λ z. R y z ≡ Less) ys t.0 x h))
        ]
      ] in
      let rest : xs ≡ ys =
      sorted_one xs ys s.1 t.1
      (λ z h. elim (f z (inr h)) [ inl e ↦ absurd (let m : R x z ≡ Less = all_in (λ z. R x z ≡ Less) xs s.0 z h in let n : R x x ≡ Less = subst (λ v. R x v ≡ Less) (e ∙ sym first) m in both_less x x n n) | inr k ↦ k ])
      (λ z h. elim (g z (inr h)) [ inl e ↦ absurd (let m : R y z ≡ Less = all_in (λ z. R y z ≡ Less) ys t.0 z h in let n : R y y ≡ Less = subst (λ v. R y v ≡ Less) (e ∙ first) m in both_less y y n n) | inr k ↦ k ]) in
      cc (first, rest)
