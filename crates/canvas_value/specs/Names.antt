-- Names of properties: 1 to 32 bytes of `a` to `z`, `0` to `9` and `_`.
use Rattle.std.specs.Prelude.{◌≡◌, ℕ, ◌<◌, ◌≤◌, ◌&&◌, ◌||◌, ◌==◌, nat_lt, nat_le, List, Bool, true, length}
use Rattle.std.specs.List.{list_all}

-- a byte of `a` to `z`, of `0` to `9`, or `_`
abbrev pub is_name_byte : ℕ → Bool
is_name_byte b = (nat_le 97 b && nat_le b 122) || (nat_le 48 b && nat_le b 57) || b == 95

-- 1 to 32 such bytes
abbrev pub IsName : List ℕ → Type 0
IsName bs = (0 < length bs) × (length bs ≤ 32) × (list_all is_name_byte bs ≡ true)

-- the same, as a test
abbrev pub is_name : List ℕ → Bool
is_name bs = nat_lt 0 (length bs) && (nat_le (length bs) 32 && list_all is_name_byte bs)
