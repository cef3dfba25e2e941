-- What the sums of a segment are, and what becomes of them.
use Rattle.std.specs.Prelude.{◌≡◌, ◌<◌, ◌^◌, ◌++◌, [], ℕ, List, length, true, false, if◌then◌else◌, Option, None, Some, ⊤}
use Rattle.std.specs.Io.KnownBytes.{Appends}
use Rattle.disk_integrity.specs.Lines.{sum_line}
use Rattle.disk_integrity.specs.Running.{IsSumOf}
use Rattle.disk_integrity.specs.Changes.{WitnessedChange, segment_made, bytes_added, segment_synced, segment_retired}
use Rattle.disk_integrity.specs.declared.summing.Summing.{Summing}
use Rattle.disk_integrity.specs.declared.summing.Sums.{Sums}
use Rattle.disk_integrity.specs.declared.summing.Sums.TheVariants.{NoneMade, Written, Failed}

-- bytes of its segment are added to a sum, and those of others aren't
pub record Adds {W : Type 0} (n : ℕ) (bytes : List ℕ) (old new : Summing W) : Type 0 where
  pub number : new.number ≡ old.number
  pub file : new.file ≡ old.file
  pub has_line : new.has_line ≡ old.has_line
  pub sum : old.number ≡ n → (before : List ℕ) → IsSumOf old.sum before → IsSumOf new.sum (before ++ bytes)
  pub others : (old.number ≡ n → ⊥) → new ≡ old

-- where its segment was synced, the line of all bytes that were added is put into the file; where another was, nothing is
pub record WritesLine {W : Type 0} (contents : W → Option (List ℕ)) (n : ℕ) (old new : Summing W) : Type 0 where
  pub number : new.number ≡ old.number
  pub sum : new.sum ≡ old.sum
  pub has_line : old.number ≡ n → new.has_line ≡ true
  pub line : old.number ≡ n → (bytes : List ℕ) → IsSumOf old.sum bytes → length bytes < 2 ^ 64 → Appends (contents old.file) (contents new.file) (sum_line bytes)
  pub others : (old.number ≡ n → ⊥) → new ≡ old

-- the sums of this segment are begun, of no bytes and without a line, or that has failed
abbrev pub AreBegun : {W : Type 0} → ℕ → Sums W → Type 0
AreBegun n NoneMade = ⊥
AreBegun n (Written s) = (s.number ≡ n) × IsSumOf s.sum [] × (s.has_line ≡ false)
AreBegun n Failed = ⊤

-- they are written into this file
abbrev pub AreIn : {W : Type 0} → W → Sums W → Type 0
AreIn file NoneMade = ⊥
AreIn file (Written s) = s.file ≡ file
AreIn file Failed = ⊥

-- bytes of a segment are added, if sums are written
abbrev pub AreAdded : {W : Type 0} → ℕ → List ℕ → Sums W → Sums W → Type 0
AreAdded n bytes NoneMade new = new ≡ NoneMade
AreAdded n bytes (Written s) NoneMade = ⊥
AreAdded n bytes (Written s) (Written t) = Adds n bytes s t
AreAdded n bytes (Written s) Failed = ⊥
AreAdded n bytes Failed new = new ≡ Failed

-- if the sums of a segment that was synced are written, their line is, or that has failed
abbrev pub AreSynced : {W : Type 0} → (W → Option (List ℕ)) → ℕ → Sums W → Sums W → Type 0
AreSynced contents n NoneMade new = new ≡ NoneMade
AreSynced contents n (Written s) NoneMade = ⊥
AreSynced contents n (Written s) (Written t) = WritesLine contents n s t
AreSynced contents n (Written s) Failed = s.number ≡ n
AreSynced contents n Failed new = new ≡ Failed

-- what a change of the shelf makes of them
abbrev pub SumsSee : {W : Type 0} → (W → Option (List ℕ)) → WitnessedChange → Sums W → Sums W → Type 0
SumsSee contents (segment_made n) old new = AreBegun n new
SumsSee contents (bytes_added n bytes) old new = AreAdded n bytes old new
SumsSee contents (segment_synced n) old new = AreSynced contents n old new
SumsSee contents (segment_retired n) old new = new ≡ old

-- the segment whose sums are written and have no line yet
abbrev pub without_line : {W : Type 0} → Sums W → Option ℕ
without_line NoneMade = None
without_line (Written s) = if s.has_line then None else Some s.number
without_line Failed = None
