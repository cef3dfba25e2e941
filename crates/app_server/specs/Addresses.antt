-- How an address is written.
use Rattle.std.specs.Char.{is_ascii_alphanumeric}
use Rattle.std.specs.Prelude.{◌<◌, ◌≤◌, ℕ, Bool, ◌||◌, ◌==◌, List, length, IsTrue}
use Rattle.std.specs.List.{list_all}

-- a letter, a digit, `.`, `:`, `[`, `]`, `_` or `-`
abbrev pub is_address_byte : ℕ → Bool
is_address_byte b = is_ascii_alphanumeric b || (b == 45 || (b == 46 || (b == 58 || (b == 91 || (b == 93 || b == 95)))))

-- an address of a client, maybe with a port: 1 to 64 of these
abbrev pub IsAddress : List ℕ → Type 0
IsAddress text = (0 < length text) × (length text ≤ 64) × IsTrue (list_all is_address_byte text)
