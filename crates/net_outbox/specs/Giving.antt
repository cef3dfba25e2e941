-- What a stream took of the bytes that waited.
use Rattle.std.specs.Prelude.{◌≡◌, ℕ, List, ◌++◌, Option, length}
use Rattle.std.specs.Io.KnownBytes.{Appends, Keeps}

-- a stream took so many of the bytes that waited, from the front, and the rest waits
abbrev pub Gives : Option (List ℕ) → Option (List ℕ) → ℕ → List ℕ → List ℕ → Type 0
Gives before after count old new = (front : List ℕ) × (old ≡ front ++ new) × (length front ≡ count) × Appends before after front

-- a stream took none, and all wait
abbrev pub GivesNone : Option (List ℕ) → Option (List ℕ) → List ℕ → List ℕ → Type 0
GivesNone before after old new = Keeps before after × (new ≡ old)
