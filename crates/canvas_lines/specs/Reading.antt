-- How the lines that aren't passed over are read one by one.
use Rattle.std.specs.Prelude.{◌≡◌, ℕ, Bool, true, false, List, [], ◌∷◌, ◌++◌, codes}
use Rattle.canvas_lines.specs.Spelling.{Requested, SpellsRequest, InputSpells, IsBadLine}

-- the first of them is read as the word `log`, and each later one as one more request
abbrev pub IsRead : Bool → List ℕ → List Requested → List Requested → Type 0
IsRead false line before after = (line ≡ codes "log") × (after ≡ before)
IsRead true line before after = (requested : Requested) × SpellsRequest line requested × (after ≡ before ++ requested ∷ [])

-- it can't be read there
abbrev pub IsUnread : Bool → List ℕ → Type 0
IsUnread false line = line ≡ codes "log" → ⊥
IsUnread true line = (requested : Requested) → SpellsRequest line requested → ⊥

-- an input that stands for requests has no bad line
abbrev pub NoneIsBad : Type 0
NoneIsBad = (input : List ℕ) (requested : List Requested) (n : ℕ) → InputSpells input requested → IsBadLine input n → ⊥

-- an input has no two bad lines
abbrev pub OneIsBad : Type 0
OneIsBad = (input : List ℕ) (m n : ℕ) → IsBadLine input m → IsBadLine input n → m ≡ n
