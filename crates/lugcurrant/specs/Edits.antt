-- What a client did that plays the edit lines of its input.
use Rattle.std.specs.Prelude.{◌≡◌, ◌⊎◌, ℕ, List, Option}
use Rattle.canvas_daemon.specs.Faults.{IsDaemonEnd}
use Rattle.canvas_daemon.specs.Runs.{IsDone, IsEndedBy}
use Rattle.canvas_daemon.specs.Words.{AsksEdit}
use Rattle.canvas_daemon.specs.declared.fault.DaemonFault.{DaemonFault}

-- what `canvasd edit` does at this port was done to its end, the status is 0, and no fault was told; or a fault ended it, which was told
abbrev pub PlaysInput : (port status : ℕ) → (read left written after faults told : Option (List ℕ)) → Type 0
PlaysInput port status read left written after faults told =
    (IsDone (AsksEdit port) status read left written after × (told ≡ faults))
    ⊎ ((fault : DaemonFault) × IsEndedBy (AsksEdit port) fault read left written after × IsDaemonEnd fault status faults told)
