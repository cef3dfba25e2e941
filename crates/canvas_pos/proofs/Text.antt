-- A position is text.
use Rattle.std.proofs.Common.{ℕ, ◌<◌, ◌≤◌, List, length, get_or, All, arith, inl, inr}
use Rattle.std.proofs.lemmas.Bool.{cases_lt}
use Rattle.std.proofs.lemmas.List.{get_or_default, get_or_past}
use Rattle.std.proofs.lemmas.Str.{IsUtf8-from_ascii}
use Rattle.std.specs.Str.{IsAscii, IsUtf8}
use Rattle.canvas_model.specs.Position.{IsDigitByte, IsPosition}

-- its bytes are ASCII
pub IsAscii-position : (s : List ℕ) → IsPosition s → IsAscii s
IsAscii-position s h = λ i. elim (cases_lt i (length s)) [
  | inl lt ↦ let here : IsDigitByte (get_or s i 0) = h.digits i 0 lt in omega arith
  | inr ge ↦ omega (arith, get_or_past s i 0 ge)
]

-- and so UTF-8
pub IsUtf8-position : (s : List ℕ) → IsPosition s → IsUtf8 s
IsUtf8-position s h = IsUtf8-from_ascii s (IsAscii-position s h)

-- where each byte below a bound is a digit, all are
pub All-digits : (s : List ℕ) (n : ℕ) → length s ≤ n → ((k : ℕ) → k < n → IsDigitByte (get_or s k 32)) → All IsDigitByte s
All-digits s n le each = λ k d h. rw (get_or_default s k d 32 h) (each k (omega arith))
