-- Hosts as requests name them.
use Rattle.std.specs.Prelude.{◌≡◌, ◌⊎◌, ℕ, ◌<◌, ◌≤◌, Bool, true, ◌&&◌, ◌||◌, ◌==◌, nat_lt, nat_le, List, ◌++◌, length, take, drop, slice_index, codes}
use Rattle.std.specs.List.{list_all}
use Rattle.std.specs.Char.{is_ascii_alphanumeric, is_ascii_whitespace}

-- a letter, a digit, `-`, `.`, `:`, `[` or `]`
abbrev pub is_url_host_byte : ℕ → Bool
is_url_host_byte b = is_ascii_alphanumeric b || (b == 45 || (b == 46 || (b == 58 || (b == 91 || b == 93))))

-- a host as a request names it: 1 to 255 such bytes
abbrev pub is_host : List ℕ → Bool
is_host host = (nat_lt 0 (length host) && nat_le (length host) 255) && list_all is_url_host_byte host

-- the text, or the text and a slash
abbrev pub WithSlash : List ℕ → List ℕ → Type 0
WithSlash text long = (long ≡ text) ⊎ (long ≡ text ++ codes "/")

-- the bytes in front of this one are blanks
abbrev pub IsBlankBelow : List ℕ → ℕ → Type 0
IsBlankBelow text n = (i : ℕ) → i < n → is_ascii_whitespace (slice_index text i) ≡ true

-- the bytes from this one on are blanks
abbrev pub IsBlankFrom : List ℕ → ℕ → Type 0
IsBlankFrom text n = (i : ℕ) → n ≤ i → i < length text → is_ascii_whitespace (slice_index text i) ≡ true

-- the text stands in the long one behind this many blanks, and only blanks follow
pub record LiesBetweenBlanks (blanks : ℕ) (text long : List ℕ) : Type 0 where
  pub front : IsBlankBelow long blanks
  pub middle : text ≡ take (length text) (drop blanks long)
  pub back : IsBlankFrom (drop blanks long) (length text)

-- between blanks, the URL is `http://` and the host, and a slash or none
abbrev pub IsUrlOf : List ℕ → List ℕ → Type 0
IsUrlOf host url = (blanks : ℕ) × (rest : List ℕ) × LiesBetweenBlanks blanks (codes "http://" ++ rest) url × WithSlash host rest
