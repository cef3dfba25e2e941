-- The lines of an input, and those that count.
use Rattle.std.specs.Prelude.{ℕ, ◌==◌, Bool, true, not, List, [], ◌∷◌, if◌then◌else◌}
use Rattle.std.specs.List.{filter}

-- the byte goes onto the first of the lines
abbrev pub onto : ℕ → List (List ℕ) → List (List ℕ)
onto b [] = (b ∷ []) ∷ []
onto b (line ∷ lines) = (b ∷ line) ∷ lines

-- each line feed ends a line; the last may lack it
abbrev pub lines_of : List ℕ → List (List ℕ)
lines_of [] = []
lines_of (b ∷ bytes) = if b == 10 then [] ∷ lines_of bytes else onto b (lines_of bytes)

-- whether a line is passed over: an empty one, or one that begins with #
abbrev pub is_passed : List ℕ → Bool
is_passed [] = true
is_passed (b ∷ bytes) = b == 35

-- the lines that count: those that aren't passed over
abbrev pub meaningful : List (List ℕ) → List (List ℕ)
meaningful lines = filter (λ line. not (is_passed line)) lines
