-- What `canvasd serve` writes.
use Rattle.std.specs.Prelude.{◌≡◌, ◌⊎◌, ℕ, List, [], ◌∷◌, ◌++◌, codes, Option}
use Rattle.std.specs.Fmt.{decimal}
use Rattle.std.specs.Io.KnownBytes.{Appends}
use Rattle.canvas_daemon.specs.declared.fault.DaemonFault.{DaemonFault}
use Rattle.canvas_daemon.specs.declared.fault.DaemonFault.TheVariants.{Usage, BadLine, Memory, Device, Damaged, TooLarge}
use Rattle.canvas_daemon.specs.Words.{IsConnectionCount}

-- the line of a server at this port that begins at this version
abbrev pub serving_line : ℕ → ℕ → List ℕ
serving_line port version = codes "serving " ++ decimal port ++ codes " version " ++ decimal version ++ 10 ∷ []

-- the line of a server that has served so many connections, and stands at this version
abbrev pub served_line : ℕ → ℕ → List ℕ
served_line count version = codes "served " ++ decimal count ++ codes " version " ++ decimal version ++ 10 ∷ []

-- the first line was written, of some version
abbrev pub WritesServing : ℕ → Option (List ℕ) → Option (List ℕ) → Type 0
WritesServing port before after = (version : ℕ) × Appends before after (serving_line port version)

-- the first line was written, of this version, and the last, of some version
abbrev pub WritesServedAt : ℕ → ℕ → ℕ → Option (List ℕ) → Option (List ℕ) → Type 0
WritesServedAt version port count before after = (last : ℕ) × Appends before after (serving_line port version ++ served_line count last)

-- the first line and the last were written, each of some version
abbrev pub WritesServed : ℕ → ℕ → Option (List ℕ) → Option (List ℕ) → Type 0
WritesServed port count before after = (version : ℕ) × WritesServedAt version port count before after

-- nothing was written, or the first line alone, of this version
abbrev pub BeginsServingAt : ℕ → ℕ → Option (List ℕ) → Option (List ℕ) → Type 0
BeginsServingAt version port before after = (after ≡ before) ⊎ Appends before after (serving_line port version)

-- nothing was written, or the first line alone
abbrev pub BeginsServing : ℕ → Option (List ℕ) → Option (List ℕ) → Type 0
BeginsServing port before after = (after ≡ before) ⊎ WritesServing port before after

-- the fault is none of lines, and one of words only where so many connections aren't served
abbrev pub IsServeFault : ℕ → DaemonFault → Type 0
IsServeFault count Usage = IsConnectionCount count → ⊥
IsServeFault count (BadLine n) = ⊥
IsServeFault count Memory = Unit {0}
IsServeFault count Device = Unit {0}
IsServeFault count (Damaged segment offset) = Unit {0}
IsServeFault count TooLarge = Unit {0}
