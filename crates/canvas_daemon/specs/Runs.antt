-- What a run of the program does, by the words that it is called with.
use Rattle.std.specs.Prelude.{◌≡◌, ◌⊎◌, ℕ, Bool, true, false, List, Option}
use Rattle.canvas_daemon.specs.declared.fault.DaemonFault.{DaemonFault}
use Rattle.canvas_daemon.specs.declared.fault.DaemonFault.TheVariants.{Usage, Device}
use Rattle.canvas_daemon.specs.Faults.{IsDaemonEnd}
use Rattle.canvas_daemon.specs.Words.{AskedOfDaemon, AsksServe, AsksEdit, AsksShow, AsksTrial, AskFor}
use Rattle.canvas_daemon.specs.Served.{BeginsServing, IsServeFault, WritesServed}
use Rattle.canvas_daemon.specs.Shown.{IsShowFault}
use Rattle.canvas_lines.specs.Reports.{WritesReport}
use Rattle.canvas_daemon.specs.Trials.{WritesTrial}
use Rattle.canvas_daemon.specs.Edited.{IsLeftBy, IsEditedToEnd}

-- the words ask for nothing
abbrev pub AskForNothing : List (List ℕ) → Type 0
AskForNothing words = (asked : AskedOfDaemon) → AskFor words asked → ⊥

-- 0 for a trial whose clients agree, or else 1
abbrev pub trial_status : Bool → ℕ
trial_status true = 0
trial_status false = 1

-- what was asked for was done to its end: what was read and written, and the status
abbrev pub IsDone : AskedOfDaemon → ℕ → (read left written after : Option (List ℕ)) → Type 0
IsDone (AsksServe dir port count) status read left written after = (status ≡ 0) × (left ≡ read) × WritesServed port count written after
IsDone (AsksEdit port) status read left written after = (status ≡ 0) × IsEditedToEnd read left written after
IsDone (AsksShow dir) status read left written after = (status ≡ 0) × (left ≡ read) × WritesReport written after
IsDone (AsksTrial dir) status read left written after = (equal : Bool) × (status ≡ trial_status equal) × (left ≡ read) × WritesTrial equal written after

-- a fault other than a failed device leaves the output so
abbrev pub Leaves : DaemonFault → Type 0 → Type 0
Leaves fault P = (fault ≡ Device → ⊥) → P

-- what was asked for was ended by this fault: which it may be, and what was read and written
abbrev pub IsEndedBy : AskedOfDaemon → DaemonFault → (read left written after : Option (List ℕ)) → Type 0
IsEndedBy (AsksServe dir port count) fault read left written after = IsServeFault count fault × (left ≡ read) × Leaves fault (BeginsServing port written after)
IsEndedBy (AsksEdit port) fault read left written after = IsLeftBy read left written after fault
IsEndedBy (AsksShow dir) fault read left written after = IsShowFault fault × (left ≡ read) × Leaves fault (after ≡ written)
IsEndedBy (AsksTrial dir) fault read left written after = IsServeFault 2 fault × (left ≡ read) × Leaves fault (after ≡ written)

-- the words ask for nothing, and so nothing was read or written
abbrev pub DoesNothing : List (List ℕ) → (read left written after : Option (List ℕ)) → Type 0
DoesNothing words read left written after = AskForNothing words × (left ≡ read) × (after ≡ written)

-- the words ask for something, and it was done to its end with this status
abbrev pub Does : List (List ℕ) → ℕ → (read left written after : Option (List ℕ)) → Type 0
Does words status read left written after = (asked : AskedOfDaemon) × AskFor words asked × IsDone asked status read left written after

-- the words ask for something that this fault ended; or they ask for nothing, which is the fault
abbrev pub Fails : List (List ℕ) → (read left written after : Option (List ℕ)) → DaemonFault → Type 0
Fails words read left written after fault =
    ((asked : AskedOfDaemon) × AskFor words asked × IsEndedBy asked fault read left written after)
    ⊎ ((fault ≡ Usage) × DoesNothing words read left written after)

-- What a run did, by its words and its status: what they ask for, to its end, and then no fault was told; or a fault ended it, which was
-- told.
abbrev pub IsDaemonRun : List (List ℕ) → ℕ → (read left written after faults told : Option (List ℕ)) → Type 0
IsDaemonRun words status read left written after faults told =
    (Does words status read left written after × (told ≡ faults))
    ⊎ ((fault : DaemonFault) × Fails words read left written after fault × IsDaemonEnd fault status faults told)
