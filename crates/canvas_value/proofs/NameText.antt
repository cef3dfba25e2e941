-- A name is text, and what a test of names tells.
use Rattle.std.proofs.Common.{◌≡◌, ℕ, zero, suc, ◌<◌, List, [], ◌∷◌, true, false, refl, arith}
use Rattle.std.specs.List.{list_all}
use Rattle.std.specs.Str.{IsAscii, IsUtf8}
use Rattle.std.proofs.lemmas.Str.{IsUtf8-from_ascii}
use Rattle.canvas_value.specs.Names.{IsName, is_name, is_name_byte}
use Rattle.canvas_value.specs.NameErrors.{IsNameError}
use Rattle.canvas_value.specs.declared.names.NameError.{NameError}
use Rattle.canvas_value.specs.declared.names.NameError.TheVariants.{Empty, TooLong, BadByte, Memory}

IsAscii-name_byte : (b : ℕ) → is_name_byte b ≡ true → b < 128
IsAscii-name_byte b e = grind arith

IsAscii-name : (bs : List ℕ) → list_all is_name_byte bs ≡ true → IsAscii bs
IsAscii-name [] e i = omega arith
IsAscii-name (b ∷ bs) e zero = grind (arith, IsAscii-name_byte)
IsAscii-name (b ∷ bs) e (suc i) = grind (arith, IsAscii-name bs)

pub IsUtf8-name : (bs : List ℕ) → list_all is_name_byte bs ≡ true → IsUtf8 bs
IsUtf8-name bs e = IsUtf8-from_ascii bs (IsAscii-name bs e)

pub is_name-from : (bs : List ℕ) → IsName bs → is_name bs ≡ true
is_name-from bs h = grind (arith, h.0, h.1, h.2)

pub IsName-from : (bs : List ℕ) → is_name bs ≡ true → IsName bs
IsName-from bs e = (grind (arith, e), grind (arith, e), grind (arith, e))

-- a refusal for another cause than memory
pub not_name : (bs : List ℕ) (f : NameError) → (f ≡ Memory → ⊥) → IsNameError bs f → is_name bs ≡ false
not_name bs Empty k h = grind (arith, h)
not_name bs TooLong k h = grind (arith, h)
not_name bs BadByte k h = grind (arith, h.0, h.1, h.2)
not_name bs Memory k h = absurd (k refl)
