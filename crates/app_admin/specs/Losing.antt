-- What is told of a folder before it is opened.
use Rattle.std.specs.Prelude.{◌≡◌, ℕ, List, map, Option, MatchOption}
use Rattle.std.specs.Option.{option_map}
use Rattle.canvas_shelf.specs.Disk.{Content, Segment, seen}
use Rattle.canvas_journal.specs.Found.{Finds, IsState}
use Rattle.canvas_journal.specs.Meaning.{Versioned}
use Rattle.disk_integrity.specs.Losses.{IsLost, NothingLost}
use Rattle.disk_integrity.specs.declared.listed.Listed.{Listed}
use Rattle.disk_integrity.specs.declared.loss.Loss.{Loss}
use Rattle.disk_integrity.specs.declared.trace.Trace.{Trace}
use Rattle.app_admin.specs.Checkpoints.{checkpoint_bytes}
use Rattle.app_admin.specs.Taken.{Source, TakesFrom}

-- numbers and bytes
abbrev pub content_of : List Listed → Content
content_of = map (λ s. (s.number, s.bytes.items))

-- the number of what is taken
abbrev pub number_taken : Option Source → Option ℕ
number_taken = option_map (λ s. s.number)

-- nothing is lost in these segments, of which that one is taken and this found, where that is left beside them; or this is the first loss
abbrev pub IsFirstLoss : List Listed → Option ℕ → Versioned → Option Trace → Option Loss → Type 0
IsFirstLoss listed taken s trace loss =
    MatchOption loss (NothingLost taken (checkpoint_bytes s) trace listed) (IsLost taken (checkpoint_bytes s) trace listed)

-- the first loss of the disk's segments, with some sums, and of what recovery takes and finds, where this is left beside them
abbrev pub TellsLoss : List Segment → Option Trace → Option Loss → Type 0
TellsLoss disk trace loss =
    (listed : List Listed) × (source : Option Source) × (s : Versioned)
    × (content_of listed ≡ seen disk) × TakesFrom (seen disk) source × Finds (seen disk) (IsState s)
    × IsFirstLoss listed (number_taken source) s trace loss
