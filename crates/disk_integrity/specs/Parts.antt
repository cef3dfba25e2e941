-- Parts of records and of checkpoints.
use Rattle.std.specs.Prelude.{◌≡◌, ◌<◌, ◌≤◌, ◌≢◌, ℕ, List, All, length, take, drop, slice_index}
use Rattle.canvas_shelf.specs.Records.{records, texts}

-- where the whole records end
abbrev pub records_end : List ℕ → ℕ
records_end bytes = length (records (texts bytes))

-- no byte is below 32, as none of a record's text is
abbrev pub IsText : List ℕ → Type 0
IsText = All (λ b. 32 ≤ b)

-- a record's length, or a part of it, and then a part of a text: a further record would begin with a byte below 32
abbrev pub IsCutRecord : List ℕ → Type 0
IsCutRecord rest = IsText (drop 4 rest)

-- up to here they are the same, and here is a byte that the whole hasn't got here
pub record DiffersAt (at : ℕ) (bytes whole : List ℕ) : Type 0 where
  pub same : take at bytes ≡ take at whole
  pub more : at < length bytes
  pub other : at < length whole → slice_index bytes at ≢ slice_index whole at
