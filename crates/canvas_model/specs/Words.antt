-- How a line is cut into words.
use Rattle.std.specs.Prelude.{◌≡◌, ◌≢◌, ℕ, ◌<◌, ◌++◌, ◌∷◌, List, length, slice_index}

-- the byte isn't there
abbrev pub Lacks : ℕ → List ℕ → Type 0
Lacks byte s = (k : ℕ) → k < length s → slice_index s k ≢ byte

-- the bytes before the first such byte, and those after it
pub record IsCut (byte : ℕ) (s before after : List ℕ) : Type 0 where
  pub parts : s ≡ before ++ byte ∷ after
  pub first : Lacks byte before
