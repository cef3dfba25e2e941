-- The members of a list, by recursion.
use Rattle.std.proofs.Common.{◌≡◌, ◌⊎◌, zero, suc, ◌≤◌, List, [], ◌∷◌, ◌++◌, length, refl, sym, ◌∙◌, ap, subst, inl, inr, arith}
use Rattle.std.specs.List.{Contains}

-- x is one of them
abbrev pub IsIn : {X : Type 0} → X → List X → Type 0
IsIn x [] = ⊥
IsIn x (y ∷ ys) = (x ≡ y) ⊎ IsIn x ys

pub in_from : {X : Type 0} (xs : List X) (x : X) → Contains xs x → IsIn x xs
in_from [] x (k, lt, is) = absurd (omega (arith, lt))
in_from (y ∷ ys) x (zero, lt, is) = inl (sym is)
in_from (y ∷ ys) x (suc k, lt, is) = inr (in_from ys x (k, omega (arith, lt), is))

pub in_to : {X : Type 0} (xs : List X) (x : X) → IsIn x xs → Contains xs x
in_to [] x h = absurd h
in_to (y ∷ ys) x (inl e) = (0, omega arith, sym e)
in_to (y ∷ ys) x (inr h) = let k = in_to ys x h in (suc k.0, omega (arith, k.1), k.2)

pub in_left : {X : Type 0} (x : X) (xs ys : List X) → IsIn x xs → IsIn x (xs ++ ys)
in_left x [] ys h = absurd h
in_left x (z ∷ xs) ys (inl e) = inl e
in_left x (z ∷ xs) ys (inr h) = inr (in_left x xs ys h)

pub in_right : {X : Type 0} (x : X) (xs ys : List X) → IsIn x ys → IsIn x (xs ++ ys)
in_right x [] ys h = h
in_right x (z ∷ xs) ys h = inr (in_right x xs ys h)

pub in_either : {X : Type 0} (x : X) (xs ys : List X) → IsIn x (xs ++ ys) → IsIn x xs ⊎ IsIn x ys
in_either x [] ys h = inr h
in_either x (z ∷ xs) ys (inl e) = inl (inl e)
in_either x (z ∷ xs) ys (inr h) = elim (in_either x xs ys h) [ inl k ↦ inl (inr k) | inr k ↦ inr k ]

-- ---- lists without repetition

abbrev pub Distinct : {X : Type 0} → List X → Type 0
Distinct [] = Unit {0}
Distinct (x ∷ xs) = (IsIn x xs → ⊥) × Distinct xs

pub distinct_both : {X : Type 0} (xs ys : List X) → Distinct xs → Distinct ys → ((z : X) → IsIn z xs → IsIn z ys → ⊥) → Distinct (xs ++ ys)
distinct_both [] ys d e apart = e
distinct_both (x ∷ xs) ys d e apart = (
  λ h. elim (in_either x xs ys h) [ inl k ↦ d.0 k | inr k ↦ apart x (inl refl) k ],
  distinct_both xs ys d.1 e (λ z h k. apart z (inr h) k),
)

-- what is left of ys when x is taken out once
record Left {X : Type 0} (x : X) (ys : List X) : Type 0 where
  rest : List X
  shorter : length ys ≡ suc (length rest)
  others : (z : X) → IsIn z ys → (z ≡ x) ⊎ IsIn z rest

take_out : {X : Type 0} (x : X) (ys : List X) → IsIn x ys → Left x ys
take_out x [] h = absurd h
take_out x (y ∷ ys) (inl e) = record { rest = ys; shorter = refl; others = λ z h. elim h [ inl f ↦ inl (f ∙ sym e) | inr g ↦ inr g ] }
take_out x (y ∷ ys) (inr h) =
    let l = take_out x ys h in
    record {
      rest = y ∷ l.rest;
      shorter = ap suc l.shorter;
      others = λ z k. elim k [ inl f ↦ inr (inl f) | inr g ↦ elim (l.others z g) [ inl e ↦ inl e | inr m ↦ inr (inr m) ] ];
    }

-- as many different things are not among fewer
pub no_fewer : {X : Type 0} (xs ys : List X) → Distinct xs → ((z : X) → IsIn z xs → IsIn z ys) → length xs ≤ length ys
no_fewer [] ys d h = omega arith
no_fewer (x ∷ xs) ys d h =
    let l = take_out x ys (h x (inl refl)) in
    let k : length xs ≤ length l.rest = no_fewer xs l.rest d.1 (λ z m. elim (l.others z (h z (inr m))) [ inl e ↦ absurd (d.0 (subst (λ v. IsIn v xs) e m)) | inr g ↦ g ]) in
    omega (arith, l.shorter)
