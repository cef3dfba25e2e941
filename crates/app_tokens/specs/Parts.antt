-- The parts of a token, and other texts that are cut at a byte.
use Rattle.std.specs.Prelude.{ℕ, ◌+◌, Bool, ◌==◌, List, codes, Option, None, Some, option_and_then, option_map, take, drop}
use Rattle.std.specs.List.{list_any, position, slice_split}
use Rattle.app_tokens.specs.declared.parts.Parts as declared

-- the byte is one of these
abbrev pub is_one_of : List ℕ → ℕ → Bool
is_one_of gaps b = list_any (λ gap. gap == b) gaps

-- what comes before the first of such bytes, and what comes after it
abbrev pub cut : List ℕ → List ℕ → Option (List ℕ × List ℕ)
cut gaps text = option_map (λ at. (take at text, drop (at + 1) text)) (position (is_one_of gaps) text)

-- the texts between such bytes
abbrev pub words_of : List ℕ → List ℕ → List (List ℕ)
words_of gaps text = slice_split (is_one_of gaps) text

-- the three parts of a token
pub record PartsValue : Type 0 where
  pub header : List ℕ
  pub payload : List ℕ
  pub code : List ℕ

-- what contracts see of parts
abbrev pub seen_parts : declared.Parts → PartsValue
seen_parts parts = record { header = parts.header.now; payload = parts.payload.now; code = parts.code.now }

-- three parts, unless the last has a dot
abbrev pub three_parts : List ℕ → List ℕ × List ℕ → Option (List ℕ × List ℕ) → Option PartsValue
three_parts header rest None = Some (record { header = header; payload = rest.0; code = rest.1 })
three_parts header rest (Some more) = None

-- the parts behind a header
abbrev pub with_header : List ℕ → List ℕ × List ℕ → Option PartsValue
with_header header rest = three_parts header rest (cut (codes ".") rest.1)

-- the parts of a token: what its two dots part, if it has exactly two
abbrev pub parts_of : List ℕ → Option PartsValue
parts_of token = option_and_then (λ first. option_and_then (with_header first.0) (cut (codes ".") first.1)) (cut (codes ".") token)
