-- The last of a list to which one is added.
use Rattle.std.proofs.Common.{◌≡◌, ℕ, ◌-◌, List, [], ◌∷◌, ◌++◌, ◌<◌, zero, suc, length, length-append, false, Option, Some, None, IsSome, Result, Ok, Err, OnOk, is_err, slice_get, refl, sym, ap, ◌∙◌, arith}
use Rattle.std.specs.Borrow.{Bor}
use Rattle.std.specs.Option.{option_copied}
use Rattle.std.proofs.lemmas.Option.{same_Some}

-- what holds of a success
pub at_ok : {T E P : Type 0} (r : Result T E) → is_err r ≡ false → OnOk r P → P
at_ok (Ok x) ok p = p
at_ok (Err e) ok p = absurd (cc)

at_end : {A : Type 0} (xs : List A) (x : A) → slice_get (xs ++ x ∷ []) (length xs) ≡ Some x
at_end [] x = refl
at_end (y ∷ xs) x = at_end xs x

pub last_pushed : {A : Type 0} (xs ys : List A) (x y : A) (n : ℕ) → ys ≡ xs ++ x ∷ [] → n ≡ length ys → slice_get ys (n - 1) ≡ Some y → y ≡ x
last_pushed xs ys x y n is count there =
    let counted : n - 1 ≡ length xs = let a = ap length is in let b = length-append xs (x ∷ []) in omega (arith, a, b, count) in
    same_Some y x (sym there ∙ (λ i. slice_get (is i) (counted i)) ∙ at_end xs x)

within : {A : Type 0} (xs : List A) (i : ℕ) → i < length xs → slice_get xs i ≡ None → ⊥
within [] i lt none = absurd (omega (arith, lt))
within (x ∷ xs) zero lt none = absurd (cc)
within (x ∷ xs) (suc i) lt none = within xs i (omega (arith, lt)) none

-- there is one at each index of the list
pub one_there : {A : Type 0} (xs : List A) (i : ℕ) (one : Option (Bor A)) → option_copied one ≡ slice_get xs i → i < length xs → IsSome one
one_there xs i None is lt = absurd (within xs i lt (sym is))
one_there xs i (Some x) is lt = refl
