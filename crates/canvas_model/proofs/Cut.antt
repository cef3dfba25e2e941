-- Bytes are cut at the first separator in one way.
use Rattle.std.proofs.Common.{◌≡◌, ◌≢◌, ◌==◌, ◌||◌, Bool, false, ℕ, zero, suc, List, [], ◌∷◌, ◌++◌, refl, sym, ap, subst, ◌∙◌, arith}
use Rattle.std.proofs.lemmas.Bool.Decides.{nat_tests}
use Rattle.canvas_model.specs.Words.{Lacks, IsCut}

one_cut : (m : ℕ) (x y r s : List ℕ) → Lacks m x → Lacks m y → x ++ m ∷ r ≡ y ++ m ∷ s → (x ≡ y) × (r ≡ s)
one_cut m [] [] r s hx hy e = (refl, cc)
one_cut m [] (b ∷ y) r s hx hy e = absurd (hy 0 (omega arith) (let h : m ≡ b = cc in sym h))
one_cut m (a ∷ x) [] r s hx hy e = absurd (hx 0 (omega arith) (let h : a ≡ m = cc in h))
one_cut m (a ∷ x) (b ∷ y) r s hx hy e =
    let rest : x ++ m ∷ r ≡ y ++ m ∷ s = cc in
    let head : a ≡ b = cc in
    let both = one_cut m x y r s (λ k lt. hx (suc k) (omega arith)) (λ k lt. hy (suc k) (omega arith)) rest in
    (ap (λ h. h ∷ x) head ∙ ap (λ t. b ∷ t) both.0, both.1)

separator_there : (m : ℕ) (x r : List ℕ) → Lacks m (x ++ m ∷ r) → ⊥
separator_there m [] r h = h 0 (omega arith) refl
separator_there m (a ∷ x) r h = separator_there m x r (λ k lt. h (suc k) (omega arith))

-- the cut of what is so spelled
pub cut_is : (m : ℕ) (s before after x r : List ℕ) → IsCut m s before after → Lacks m x → s ≡ x ++ m ∷ r → (before ≡ x) × (after ≡ r)
cut_is m s before after x r cut lacks is = one_cut m before x after r cut.first lacks (sym cut.parts ∙ is)

-- what is so spelled has the separator
pub uncut : (m : ℕ) (s x r : List ℕ) → Lacks m s → s ≡ x ++ m ∷ r → ⊥
uncut m s x r lacks is = separator_there m x r (subst (Lacks m) is lacks)

abbrev has : ℕ → List ℕ → Bool
has m [] = false
has m (b ∷ s) = b == m || has m s

head_differs : (m b : ℕ) (r : Bool) → b == m || r ≡ false → b ≢ m
head_differs m b r e is = grind (arith, nat_tests)

tail_lacks : (m b : ℕ) (r : Bool) → b == m || r ≡ false → r ≡ false
tail_lacks m b r e = grind (arith, nat_tests)

-- a written word lacks what it doesn't show
pub lacks_written : (m : ℕ) (s : List ℕ) → has m s ≡ false → Lacks m s
lacks_written m [] e k lt = absurd (omega arith)
lacks_written m (b ∷ s) e zero lt = head_differs m b (has m s) e
lacks_written m (b ∷ s) e (suc k) lt = lacks_written m s (tail_lacks m b (has m s) e) k (omega arith)
