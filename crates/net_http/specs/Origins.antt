-- How a browser names whose page it is that asks: RFC 6454, The Web Origin Concept.
use Rattle.std.specs.Prelude.{◌≡◌, ◌<◌, ◌⊎◌, ℕ, Bool, ◌&&◌, ◌||◌, ◌==◌, nat_le, List, ◌++◌, length, codes, IsTrue}
use Rattle.std.specs.List.{list_all}

-- a small letter, or a digit
abbrev pub is_small : ℕ → Bool
is_small b = (nat_le 97 b && nat_le b 122) || (nat_le 48 b && nat_le b 57)

-- a byte of a scheme: a small letter, a digit, `+`, `-` or `.`
abbrev pub is_scheme_byte : ℕ → Bool
is_scheme_byte b = is_small b || (b == 43 || (b == 45 || b == 46))

-- a byte of a host and its port: a small letter, a digit, `-`, `.`, `:`, `[`, `]` or `_`
abbrev pub is_host_byte : ℕ → Bool
is_host_byte b = is_small b || (b == 45 || (b == 46 || (b == 58 || (b == 91 || (b == 93 || b == 95)))))

-- a scheme, `://`, and a host with its port, which is empty for a page in a file
abbrev pub IsSchemeAndHost : List ℕ → Type 0
IsSchemeAndHost text =
    (scheme : List ℕ) × (host : List ℕ) × (text ≡ scheme ++ (codes "://" ++ host))
    × (0 < length scheme) × IsTrue (list_all is_scheme_byte scheme) × IsTrue (list_all is_host_byte host)

-- an origin as browsers send it: a scheme and a host, or `null`
abbrev pub IsOrigin : List ℕ → Type 0
IsOrigin text = (text ≡ codes "null") ⊎ IsSchemeAndHost text
