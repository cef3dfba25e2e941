-- Why bytes are no position.
use Rattle.std.specs.Prelude.{◌≡◌, ◌<◌, ◌≤◌, ◌-◌, ℕ, List, length, slice_index_or, All}
use Rattle.canvas_model.specs.Position.{IsDigitByte, IsPosition}
use Rattle.canvas_pos.specs.declared.PosError.{PosError}
use Rattle.canvas_pos.specs.declared.PosError.TheVariants.{Empty, TooLong, BadByte, TrailingZero, Memory}

-- the byte at i is the first that stands for no digit
pub record IsFirstBad (s : List ℕ) (i : ℕ) : Type 0 where
  pub within : i < length s
  pub bad : ¬ IsDigitByte (slice_index_or s i 32)
  pub before : (k : ℕ) → k < i → IsDigitByte (slice_index_or s k 32)

-- the first fault of the bytes, or want of memory where they are a position
abbrev pub IsFault : List ℕ → PosError → Type 0
IsFault s Empty = length s ≡ 0
IsFault s TooLong = 128 < length s
IsFault s (BadByte i) = (length s ≤ 128) × IsFirstBad s i
IsFault s TrailingZero = (0 < length s) × (length s ≤ 128) × All IsDigitByte s × (slice_index_or s (length s - 1) 32 ≡ 32)
IsFault s Memory = IsPosition s
