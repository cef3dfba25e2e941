-- Which parts of an input are rows.
use Rattle.std.specs.Prelude.{◌≡◌, ℕ, ◌==◌, ◌&&◌, ◌||◌, ◌-◌, Bool, true, false, List, [], ◌∷◌, length, take, slice_get, nat_lt, Option, Some, None, if◌then◌else◌}
use Rattle.std.specs.FinMap as map
use Rattle.std.specs.Io.KnownBytes.{Consumes}
use Rattle.canvas_journal.specs.Found.{AreRowTexts}
use Rattle.canvas_journal.specs.Meaning.{Versioned}
use Rattle.canvas_lines.specs.Lines.{lines_of}

-- the byte is a bracket, or there is none
abbrev pub is_bracket_or_none : Option ℕ → Bool
is_bracket_or_none None = true
is_bracket_or_none (Some b) = (b == 91) || (b == 93)

-- the line is empty, or a bracket alone
abbrev pub is_frame : List ℕ → Bool
is_frame line = nat_lt (length line) 2 && is_bracket_or_none (slice_get line 0)

-- the byte is a comma
abbrev pub is_comma : Option ℕ → Bool
is_comma None = false
is_comma (Some b) = b == 44

-- a comma ends the line
abbrev pub ends_in_comma : List ℕ → Bool
ends_in_comma line = is_comma (slice_get line (length line - 1))

-- the line without it
abbrev pub without_comma : List ℕ → List ℕ
without_comma line = if ends_in_comma line then take (length line - 1) line else line

-- the part of a line that has to be a row, unless the line is passed over
abbrev pub row_part : List ℕ → Option (List ℕ)
row_part line = if is_frame line then None else Some (without_comma line)

-- the text, where there is one, before these
abbrev pub before : Option (List ℕ) → List (List ℕ) → List (List ℕ)
before None ts = ts
before (Some text) ts = text ∷ ts

-- the parts of these lines that have to be rows
abbrev pub row_texts : List (List ℕ) → List (List ℕ)
row_texts [] = []
row_texts (line ∷ lines) = before (row_part line) (row_texts lines)

-- a text was read whose lines are the rows of this document, one by one, and its version is 1
abbrev pub IsImported : Option (List ℕ) → Option (List ℕ) → Versioned → Type 0
IsImported before after s =
    (text : List ℕ) × Consumes before after text × AreRowTexts (row_texts (lines_of text)) (map.entries s.0.doc) × (s.1 ≡ 1)
