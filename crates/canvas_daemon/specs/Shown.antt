-- What `canvasd show` writes.
use Rattle.std.specs.Prelude.{ℕ, List, Option}
use Rattle.std.specs.Io.KnownBytes.{Appends}
use Rattle.canvas_lines.specs.Reports.{IsReportText}
use Rattle.canvas_shelf.specs.Disk.{Segment, seen}
use Rattle.canvas_journal.specs.Meaning.{Versioned}
use Rattle.canvas_journal.specs.Found.{Finds, IsState}
use Rattle.canvas_daemon.specs.declared.fault.DaemonFault.{DaemonFault}
use Rattle.canvas_daemon.specs.declared.fault.DaemonFault.TheVariants.{Usage, BadLine, Memory, Device, Damaged, TooLarge}

-- the text of the state that recovery finds on the disk
abbrev pub IsReportOf : List Segment → List ℕ → Type 0
IsReportOf disk text = (state : Versioned) × Finds (seen disk) (IsState state) × IsReportText state.1 state.0.doc text

-- the text of the state that recovery finds on the disk was written
abbrev pub WritesReportOf : List Segment → Option (List ℕ) → Option (List ℕ) → Type 0
WritesReportOf disk before after = (text : List ℕ) × IsReportOf disk text × Appends before after text

-- the fault is none of words, lines or room
abbrev pub IsShowFault : DaemonFault → Type 0
IsShowFault Usage = ⊥
IsShowFault (BadLine n) = ⊥
IsShowFault Memory = Unit {0}
IsShowFault Device = Unit {0}
IsShowFault (Damaged segment offset) = Unit {0}
IsShowFault TooLarge = ⊥
