-- How a document is named.
use Rattle.std.specs.Prelude.{◌≡◌, ℕ, Bool, ◌&&◌, ◌||◌, List, length, nat_le, IsTrue}
use Rattle.std.specs.List.{list_all}

-- a digit, or one of the letters a to f
abbrev pub is_hex_digit : ℕ → Bool
is_hex_digit b = (nat_le 48 b && nat_le b 57) || (nat_le 97 b && nat_le b 102)

-- 32 hex digits in lower case
abbrev pub IsIdentity : List ℕ → Type 0
IsIdentity text = (length text ≡ 32) × IsTrue (list_all is_hex_digit text)
