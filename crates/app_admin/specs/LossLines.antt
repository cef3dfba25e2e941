-- How a loss is told.
use Rattle.std.specs.Prelude.{◌≡◌, ℕ, List, ◌++◌, Option, codes}
use Rattle.std.specs.Fmt.{decimal}
use Rattle.std.specs.Io.KnownBytes.{Appends}
use Rattle.disk_integrity.specs.declared.fault.SumFault.{SumFault}
use Rattle.disk_integrity.specs.declared.fault.SumFault.TheVariants.{Unreadable, Short, Changed}
use Rattle.disk_integrity.specs.declared.loss.Loss.{Loss}
use Rattle.disk_integrity.specs.declared.loss.Loss.TheVariants.{Sums, NoCheckpoint, NoCutRecord, Gone}
use Rattle.disk_integrity.specs.declared.trace.Trace.{Trace}
use Rattle.disk_integrity.specs.declared.trace.Trace.TheVariants as trace
use Rattle.app_faults.specs.declared.fault.Fault.{Fault}
use Rattle.app_faults.specs.declared.fault.Fault.TheVariants as fault

-- the line of a folder of which nothing is lost
abbrev pub no_loss_line : List ℕ
no_loss_line = codes "no loss: a crash may have left it so\n"

-- the line of a segment's sums that don't hold
abbrev pub sums_line : ℕ → SumFault → List ℕ
sums_line n (Unreadable good) = codes "loss: the sums of segment " ++ decimal n ++ codes " can't be read behind those of its first " ++ decimal good ++ codes " bytes\n"
sums_line n (Short good named) = codes "loss: segment " ++ decimal n ++ codes " is shorter than it was: " ++ decimal named ++ codes " bytes were synced\n"
sums_line n (Changed good named) =
    codes "loss: of segment " ++ decimal n ++ codes " the bytes from " ++ decimal good ++ codes " to " ++ decimal named ++ codes " aren't those that were synced\n"

-- the line of a document that has gone, of which this is left
abbrev pub gone_line : Trace → List ℕ
gone_line trace.Identity = codes "loss: no segment of the document is left, but its identity is\n"
gone_line (trace.Sums n) = codes "loss: no segment of the document is left, but sums of segment " ++ decimal n ++ codes " are\n"

-- the line of a loss
abbrev pub loss_line : Loss → List ℕ
loss_line (Sums n fault) = sums_line n fault
loss_line (NoCheckpoint n at) = codes "loss: segment " ++ decimal n ++ codes " is no checkpoint that was cut short: it differs at offset " ++ decimal at ++ codes "\n"
loss_line (NoCutRecord n at) = codes "loss: segment " ++ decimal n ++ codes " ends in more than a record that was cut short, from offset " ++ decimal at ++ codes " on\n"
loss_line (Gone trace) = gone_line trace

-- so many bytes hold
abbrev pub good_of : SumFault → ℕ
good_of (Unreadable good) = good
good_of (Short good named) = good
good_of (Changed good named) = good

-- the fault that a loss is: damage of its segment, which is as it was up to there; or that no segment is left
abbrev pub fault_of_loss : Loss → Fault
fault_of_loss (Sums n broken) = fault.Damaged n (good_of broken)
fault_of_loss (NoCheckpoint n at) = fault.Damaged n at
fault_of_loss (NoCutRecord n at) = fault.Damaged n at
fault_of_loss (Gone trace) = fault.Gone

-- the fault that this loss is is that one, and its line was written
abbrev pub TellsLossAs : Fault → Option (List ℕ) → Option (List ℕ) → Loss → Type 0
TellsLossAs told before after loss = (fault_of_loss loss ≡ told) × Appends before after (loss_line loss)
