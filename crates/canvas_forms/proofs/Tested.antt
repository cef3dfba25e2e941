-- What a test that was made says.
use Rattle.std.proofs.Common.{◌≡◌, Bool, true, false, T, refl}

pub t_true : (b : Bool) → T b → b ≡ true
t_true true t = refl
t_true false t = absurd t

pub not_true : (b : Bool) → (T b → ⊥) → b ≡ false
not_true true n = absurd (n tt)
not_true false n = refl
