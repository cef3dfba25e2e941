-- Whether sums hold of a segment.
use Rattle.std.specs.Prelude.{◌≡◌, ◌<◌, ◌≤◌, ◌≢◌, ℕ, List, ◌∷◌, ◌++◌, length, take}
use Rattle.std.specs.List.{AllByRecursion}
use Rattle.hex.specs.Hex.{encode_lower}
use Rattle.sha2.specs.Sha256.{sha256}
use Rattle.disk_integrity.specs.Lines.{AreSums, HasNoEnd, Names, with_ends}
use Rattle.disk_integrity.specs.declared.fault.SumFault.{SumFault}
use Rattle.disk_integrity.specs.declared.fault.SumFault.TheVariants.{Unreadable, Short, Changed}

-- All whole lines are those of beginnings of the segment, and the last has this length. Behind them no line ends.
pub record SumsHold (segment sums : List ℕ) (good : ℕ) : Type 0 where
  pub lines : List (List ℕ)
  pub rest : List ℕ
  pub whole : sums ≡ with_ends lines ++ rest
  pub each : AllByRecursion HasNoEnd lines
  pub torn : HasNoEnd rest
  pub are : AreSums segment lines good

-- This is wrong with a line behind others that hold up to this length: it names none that is as large; it names more than there is; or so many
-- bytes have another digest.
abbrev pub IsFaultOf : List ℕ → ℕ → List ℕ → SumFault → Type 0
IsFaultOf segment good line (Unreadable before) = (before ≡ good) × ((n : ℕ) (digest : List ℕ) → Names line n digest → n < good)
IsFaultOf segment good line (Short before n) = (before ≡ good) × ((digest : List ℕ) × Names line n digest) × (good ≤ n) × (length segment < n)
IsFaultOf segment good line (Changed before n) =
    (before ≡ good) × ((digest : List ℕ) × Names line n digest × (digest ≢ encode_lower (sha256 (take n segment)))) × (good ≤ n) × (n ≤ length segment)

-- the first line that doesn't hold, and what is wrong with it
pub record FirstFault (segment sums : List ℕ) (fault : SumFault) : Type 0 where
  pub before : List (List ℕ)
  pub line : List ℕ
  pub behind : List ℕ
  pub good : ℕ
  pub whole : sums ≡ with_ends before ++ (line ++ 10 ∷ behind)
  pub each : AllByRecursion HasNoEnd before
  pub one : HasNoEnd line
  pub are : AreSums segment before good
  pub is : IsFaultOf segment good line fault
