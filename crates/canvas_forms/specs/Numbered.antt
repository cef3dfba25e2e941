-- Things that are written as their numbers.
use Rattle.std.specs.Prelude.{ℕ}
use Rattle.canvas_codec.specs.Codec.{Codec}
use Rattle.canvas_codec.specs.Parts.{via, whole}

-- the form of what has a number from low to high
abbrev pub numbered : {X : Type 0} → ℕ → ℕ → (ℕ → X) → (X → ℕ) → Codec X
numbered low high thing number = via thing number (whole low high)
