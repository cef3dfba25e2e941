-- What is read only where a JSON tree meets a test.
use Rattle.std.proofs.Common.{◌≡◌, Bool, true, false, true≢false, cond, Option, Some, None, refl, sym}

pub neither : {X : Type 0} (b : Bool) → ◌≡◌ {A = Option X} (cond b None None) None
neither true = refl
neither false = refl

pub tested_case : {X : Type 0} (b : Bool) (o : Option X) (x : X) → cond b o None ≡ Some x → (b ≡ true) × (o ≡ Some x)
tested_case true o x e = (refl, e)
tested_case false o x e = cc

pub unread_case : {X : Type 0} (b : Bool) (o : Option X) → cond b o None ≡ None → b ≡ true → o ≡ None
unread_case true o e t = e
unread_case false o e t = absurd (true≢false (sym t))
