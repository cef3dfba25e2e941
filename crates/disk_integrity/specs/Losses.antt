-- Which segments a crash may leave, and what is a loss.
use Rattle.std.specs.Prelude.{◌≡◌, ◌⊎◌, ℕ, ◌==◌, Bool, true, false, List, [], ◌∷◌, ◌++◌, drop, Option, Some, None, if◌then◌else◌}
use Rattle.std.specs.List.{AllByRecursion}
use Rattle.canvas_shelf.specs.Disk.{IsBeginning}
use Rattle.disk_integrity.specs.Checked.{FirstFault, SumsHold}
use Rattle.disk_integrity.specs.Parts.{DiffersAt, IsCutRecord, records_end}
use Rattle.disk_integrity.specs.declared.listed.Listed.{Listed}
use Rattle.disk_integrity.specs.declared.loss.Loss.{Loss}
use Rattle.disk_integrity.specs.declared.loss.Loss.TheVariants.{Sums, NoCheckpoint, NoCutRecord, Gone}
use Rattle.disk_integrity.specs.declared.trace.Trace.{Trace}

-- whether recovery takes the segment of this number
abbrev pub is_taken : Option ℕ → ℕ → Bool
is_taken None n = false
is_taken (Some m) n = m == n

-- the segments down to the one that is taken
abbrev pub down_to : Option ℕ → List Listed → List Listed
down_to taken [] = []
down_to taken (s ∷ older) = if is_taken taken s.number then s ∷ [] else s ∷ down_to taken older

-- its sums hold
abbrev pub HasSums : Listed → Type 0
HasSums s = (good : ℕ) × SumsHold s.bytes.items s.sums.items good

-- The taken segment ends in a record that was cut short, if not in a whole one. Each above it is a beginning of the checkpoint.
abbrev pub IsLeft : Bool → List ℕ → List ℕ → Type 0
IsLeft true checkpoint bytes = IsCutRecord (drop (records_end bytes) bytes)
IsLeft false checkpoint bytes = IsBeginning bytes checkpoint

-- a crash may leave the segment so
abbrev pub MayBeLeft : Bool → List ℕ → Listed → Type 0
MayBeLeft taken checkpoint s = HasSums s × IsLeft taken checkpoint s.bytes.items

-- the same, where this one is taken
abbrev pub MayBeLeftIfTaken : Option ℕ → List ℕ → Listed → Type 0
MayBeLeftIfTaken taken checkpoint s = MayBeLeft (is_taken taken s.number) checkpoint s

-- this of the segment no crash leaves
abbrev pub IsLoss : Bool → List ℕ → Listed → Loss → Type 0
IsLoss taken checkpoint s (Sums n fault) = (n ≡ s.number) × FirstFault s.bytes.items s.sums.items fault
IsLoss false checkpoint s (NoCheckpoint n at) = (n ≡ s.number) × HasSums s × DiffersAt at s.bytes.items checkpoint
IsLoss true checkpoint s (NoCheckpoint n at) = ⊥
IsLoss true checkpoint s (NoCutRecord n at) =
    (n ≡ s.number) × HasSums s × (at ≡ records_end s.bytes.items) × (IsCutRecord (drop at s.bytes.items) → ⊥)
IsLoss false checkpoint s (NoCutRecord n at) = ⊥
IsLoss taken checkpoint s (Gone trace) = ⊥

-- the first of these segments that no crash leaves so, and why
pub record FirstLoss (taken : Option ℕ) (checkpoint : List ℕ) (segments : List Listed) (loss : Loss) : Type 0 where
  pub above : List Listed
  pub one : Listed
  pub below : List Listed
  pub whole : segments ≡ above ++ one ∷ below
  pub each : AllByRecursion (MayBeLeftIfTaken taken checkpoint) above
  pub is : IsLoss (is_taken taken one.number) checkpoint one loss

-- no segment is taken, and this is left of a document: it has gone
abbrev pub gone : Option ℕ → Option Trace → Option Loss
gone None None = None
gone None (Some trace) = Some (Gone trace)
gone (Some n) trace = None

-- a crash may leave each of these segments so, down to the taken one, and no document has gone
abbrev pub NothingLost : Option ℕ → List ℕ → Option Trace → List Listed → Type 0
NothingLost taken checkpoint trace listed = AllByRecursion (MayBeLeftIfTaken taken checkpoint) (down_to taken listed) × (gone taken trace ≡ None)

-- the loss is the first in these segments; or there is none in them, and the document has gone
abbrev pub IsLost : Option ℕ → List ℕ → Option Trace → List Listed → Loss → Type 0
IsLost taken checkpoint trace listed loss =
    FirstLoss taken checkpoint (down_to taken listed) loss
    ⊎ (AllByRecursion (MayBeLeftIfTaken taken checkpoint) (down_to taken listed) × (gone taken trace ≡ Some loss))
