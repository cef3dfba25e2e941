-- What is told of a document's segments that are checked.
use Rattle.std.specs.Prelude.{◌≡◌, ◌-◌, ℕ, Bool, true, false, List, [], ◌∷◌, ◌++◌, length, codes, Option, Some, None}
use Rattle.std.specs.Fmt.{decimal}
use Rattle.std.specs.Io.KnownBytes.{Appends}
use Rattle.canvas_shelf.specs.Disk.{Content, Segment, seen}
use Rattle.canvas_shelf.specs.Records.{texts}
use Rattle.canvas_journal.specs.Meaning.{Versioned}
use Rattle.canvas_journal.specs.Found.{Finds, IsState, IsDamaged, size}
use Rattle.disk_integrity.specs.declared.trace.Trace.{Trace}
use Rattle.app_admin.specs.Losing.{TellsLoss}
use Rattle.app_admin.specs.LossLines.{no_loss_line}
use Rattle.app_admin.specs.Taken.{Source, TakesFrom}

-- how many bytes stand behind the whole records
abbrev pub torn_size : List ℕ → ℕ
torn_size bytes = length bytes - size (texts bytes)

-- a segment's number, how many bytes it has, how many whole records, and how many bytes of a torn rest
abbrev pub segment_text : ℕ → ℕ → ℕ → ℕ → List ℕ
segment_text n bytes whole torn =
    codes "segment " ++ decimal n ++ codes ": bytes " ++ decimal bytes ++ codes ", whole records " ++ decimal whole ++ codes ", torn rest " ++ decimal torn ++ 10 ∷ []

-- the line of a segment
abbrev pub segment_line : ℕ → List ℕ → List ℕ
segment_line n bytes = segment_text n (length bytes) (length (texts bytes)) (torn_size bytes)

-- the lines of these segments
abbrev pub segment_lines : Content → List ℕ
segment_lines [] = []
segment_lines ((n, bytes) ∷ older) = segment_line n bytes ++ segment_lines older

-- a segment that is taken, the version that it leads to, and how many entries stand behind its checkpoint
abbrev pub taken_text : ℕ → ℕ → ℕ → List ℕ
taken_text n version past =
    codes "recovery takes segment " ++ decimal n ++ codes ": version " ++ decimal version ++ codes ", entries past its checkpoint " ++ decimal past ++ 10 ∷ []

-- the line of what recovery takes, and of the version that it leads to
abbrev pub taken_line : Option Source → ℕ → List ℕ
taken_line None version = codes "recovery takes no segment: version " ++ decimal version ++ 10 ∷ []
taken_line (Some s) version = taken_text s.number version (length s.behind)

-- lines of some segments, of what is taken of them, and of a version were written
abbrev pub WritesShelf : Option (List ℕ) → Option (List ℕ) → Type 0
WritesShelf before after =
    (content : Content) × (source : Option Source) × (version : ℕ) × Appends before after (segment_lines content ++ taken_line source version)

-- the same, and the line of no loss
abbrev pub WritesCheck : Option (List ℕ) → Option (List ℕ) → Type 0
WritesCheck before after = (between : Option (List ℕ)) × WritesShelf before between × Appends between after no_loss_line

-- the lines of all segments of the disk, of the one that recovery takes, and of the version that it finds were written
abbrev pub WritesCheckOf : List Segment → Option (List ℕ) → Option (List ℕ) → Type 0
WritesCheckOf disk before after =
    (source : Option Source) × (s : Versioned) × TakesFrom (seen disk) source × Finds (seen disk) (IsState s)
    × Appends before after (segment_lines (seen disk) ++ taken_line source s.1)

-- recovery finds this damage, and the lines of all segments were written
abbrev pub WritesDamageOf : List Segment → ℕ → ℕ → Option (List ℕ) → Option (List ℕ) → Type 0
WritesDamageOf disk n at before after = Finds (seen disk) (IsDamaged n at) × Appends before after (segment_lines (seen disk))

-- the line of no loss was written if sums are kept, and else nothing
abbrev pub WritesNoLossIf : (summed : Bool) → Option (List ℕ) → Option (List ℕ) → Type 0
WritesNoLossIf true before after = Appends before after no_loss_line
WritesNoLossIf false before after = after ≡ before

-- the lines of some segments were written, and the line of no loss if sums are kept beside them
abbrev pub WritesCheckIf : (summed : Bool) → Option (List ℕ) → Option (List ℕ) → Type 0
WritesCheckIf true before after = WritesCheck before after
WritesCheckIf false before after = WritesShelf before after

-- nothing is lost of the disk, with some sums and some trace beside it
abbrev pub NothingLostOf : List Segment → Type 0
NothingLostOf disk = (trace : Option Trace) × TellsLoss disk trace None

-- the line of no loss was written if sums are kept, and nothing is lost of the disk; else nothing was written
abbrev pub WritesNoLossIfOf : (summed : Bool) → List Segment → Option (List ℕ) → Option (List ℕ) → Type 0
WritesNoLossIfOf true disk before after = Appends before after no_loss_line × NothingLostOf disk
WritesNoLossIfOf false disk before after = after ≡ before

-- all lines of the disk were written, and then the line of no loss, of which it has none
abbrev pub WritesWholeOf : List Segment → Option (List ℕ) → Option (List ℕ) → Type 0
WritesWholeOf disk before after =
    (between : Option (List ℕ)) × WritesCheckOf disk before between × Appends between after no_loss_line × NothingLostOf disk

-- all lines of the disk were written, and if sums are kept beside it, the line of no loss, of which it has none
abbrev pub WritesCheckIfOf : (summed : Bool) → List Segment → Option (List ℕ) → Option (List ℕ) → Type 0
WritesCheckIfOf true disk before after = WritesWholeOf disk before after
WritesCheckIfOf false disk before after = WritesCheckOf disk before after
