-- What holds of all elements of a list that is made of others.
use Rattle.std.proofs.Common.{ℕ, suc, zero, ◌≤◌, List, [], ◌∷◌, length, set, arith}
use Rattle.std.specs.List.{AllWithin, insert}

module _ {X : Type 0} (P : X → Type 0) where
  abbrev Each : List X → Type 0
  Each xs = AllWithin P xs 0 (length xs)

  cons : (x : X) (xs : List X) → P x → Each xs → Each (x ∷ xs)
  cons x xs p h zero d low lt = p
  cons x xs p h (suc k) d low lt = h k d (omega arith) (omega arith)

  head : (x : X) (xs : List X) → Each (x ∷ xs) → P x
  head x xs h = h 0 x (omega arith) (omega arith)

  tail : (x : X) (xs : List X) → Each (x ∷ xs) → Each xs
  tail x xs h k d low lt = h (suc k) d (omega arith) (omega arith)

  pub each-insert : (xs : List X) (i : ℕ) (x : X) → i ≤ length xs → Each xs → P x → Each (insert xs i x)
  each-insert xs zero x le h p = cons x xs p h
  each-insert [] (suc i) x le h p = absurd (omega arith)
  each-insert (y ∷ xs) (suc i) x le h p = cons y (insert xs i x) (head y xs h) (each-insert xs i x (omega arith) (tail y xs h) p)

  pub each-set : (xs : List X) (i : ℕ) (x : X) → Each xs → P x → Each (set xs i x)
  each-set [] i x h p = h
  each-set (y ∷ xs) zero x h p = cons x xs p (tail y xs h)
  each-set (y ∷ xs) (suc i) x h p = cons y (set xs i x) (head y xs h) (each-set xs i x (tail y xs h) p)
