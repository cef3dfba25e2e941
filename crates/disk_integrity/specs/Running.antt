-- What a running sum is of.
use Rattle.std.specs.Prelude.{◌≡◌, ℕ, List, length, min}
use Rattle.sha2.specs.Hashers.{Holds256}
use Rattle.disk_integrity.specs.declared.sum.RunningSum.{RunningSum}

-- how many bytes it has counted
abbrev pub size_of : RunningSum → ℕ
size_of sum = sum.size

-- it is the sum of these bytes; it counts no further than to the last number of 64 bits
pub record IsSumOf (sum : RunningSum) (bytes : List ℕ) : Type 0 where
  pub digest : Holds256 sum.hasher bytes
  pub size : sum.size ≡ min (length bytes) 18446744073709551615
