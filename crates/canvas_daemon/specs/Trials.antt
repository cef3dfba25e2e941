-- What `canvasd trial` writes.
use Rattle.std.specs.Prelude.{ℕ, Bool, true, false, List, [], ◌∷◌, ◌++◌, codes, Option}
use Rattle.std.specs.Fmt.{decimal}
use Rattle.std.specs.Io.KnownBytes.{Appends}

-- whether the clients agree, in a word
abbrev pub equal_word : Bool → List ℕ
equal_word true = codes "yes"
equal_word false = codes "no"

-- the line of a trial whose first client is at this version
abbrev pub trial_line : ℕ → Bool → List ℕ
trial_line version equal = codes "trial version " ++ decimal version ++ codes " equal " ++ equal_word equal ++ 10 ∷ []

-- the line of some version was written
abbrev pub WritesTrial : Bool → Option (List ℕ) → Option (List ℕ) → Type 0
WritesTrial equal before after = (version : ℕ) × Appends before after (trial_line version equal)
