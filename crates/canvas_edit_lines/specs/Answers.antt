-- The lines that answer edits.
use Rattle.std.specs.Prelude.{ℕ, List, [], ◌∷◌, ◌++◌, codes, Option, None, Some}
use Rattle.std.specs.Fmt.{decimal}
use Rattle.canvas_model.specs.Local.{EditError, NotOpen, IsRoot, NotShown, ParentNotShown, BadParent, OwnDescendant, TooDeep, Crowded, IdsSpent, Full}

-- a word or two, a blank and a number
abbrev pub number_line : List ℕ → ℕ → List ℕ
number_line words n = words ++ codes " " ++ decimal n ++ 10 ∷ []

-- the name of a refusal
abbrev pub error_word : EditError → List ℕ
error_word NotOpen = codes "NotOpen"
error_word IsRoot = codes "IsRoot"
error_word NotShown = codes "NotShown"
error_word ParentNotShown = codes "ParentNotShown"
error_word BadParent = codes "BadParent"
error_word OwnDescendant = codes "OwnDescendant"
error_word TooDeep = codes "TooDeep"
error_word Crowded = codes "Crowded"
error_word IdsSpent = codes "IdsSpent"
error_word Full = codes "Full"

-- the line of an edit that was made
abbrev pub edit_line : ℕ → List ℕ
edit_line n = number_line (codes "edit") n

-- the line of an edit that was refused
abbrev pub refused_line : EditError → List ℕ
refused_line error = codes "refused " ++ error_word error ++ 10 ∷ []

-- the line of a refusal; where it was for want of memory, nothing has happened
abbrev pub refusal_line : Option EditError → List ℕ
refusal_line None = codes "nothing\n"
refusal_line (Some error) = refused_line error
