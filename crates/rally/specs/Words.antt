-- The words that the program is called with.
use Rattle.std.specs.Prelude.{◌≡◌, ℕ, ◌<◌, ◌^◌, List, [], ◌∷◌}
use Rattle.std.specs.Fmt.{decimal}
use Rattle.canvas_daemon.specs.Words.{IsConnectionCount}

-- the words ask for so many clients of this folder's document, each of which makes so many edits of its page
abbrev pub AskForRally : List (List ℕ) → List ℕ → ℕ → ℕ → Type 0
AskForRally words dir clients edits = IsConnectionCount clients × (edits < 2 ^ 32) × (words ≡ dir ∷ decimal clients ∷ decimal edits ∷ [])
