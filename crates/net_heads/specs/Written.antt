-- Fields of a head as they are written.
use Rattle.std.specs.Prelude.{ℕ, List, ◌∷◌, ◌++◌, codes}
use Rattle.httparse.specs.Ascii.{crlf_bytes, space}
use Rattle.httparse.specs.Grammar.{crlf, Field}

-- a line of a head
abbrev pub field_line : List ℕ → List ℕ → List ℕ
field_line name value = name ++ codes ": " ++ value ++ crlf_bytes

-- the same field in HTTP's grammar: a space stands before its value
abbrev pub field : List ℕ → List ℕ → Field
field name value = record { name = name; raw = space ∷ value; end = crlf }
