-- How a fault is told.
use Rattle.std.specs.Prelude.{◌≡◌, ◌⊎◌, ℕ, List, [], ◌∷◌, ◌++◌, codes, Option}
use Rattle.std.specs.Io.KnownBytes.{Appends}
use Rattle.canvas_daemon.specs.declared.fault.DaemonFault.{DaemonFault}
use Rattle.canvas_daemon.specs.declared.fault.DaemonFault.TheVariants.{Usage, BadLine, Memory, Device, Damaged, TooLarge}
use Rattle.canvas_daemon.specs.Faults.{IsDaemonStatus, daemon_fault_line}

-- how the program is called, in a line of its own
abbrev pub usage_line : List ℕ
usage_line = codes "usage: rally DIR CLIENTS EDITS" ++ 10 ∷ []

-- the line that tells of a fault: that of `canvasd`, but for the usage
abbrev pub line_of : DaemonFault → List ℕ
line_of Usage = usage_line
line_of (BadLine n) = daemon_fault_line (BadLine n)
line_of Memory = daemon_fault_line Memory
line_of Device = daemon_fault_line Device
line_of (Damaged segment offset) = daemon_fault_line (Damaged segment offset)
line_of TooLarge = daemon_fault_line TooLarge

-- the fault's status where it was told, or 4
abbrev pub IsRallyEnd : DaemonFault → ℕ → Option (List ℕ) → Option (List ℕ) → Type 0
IsRallyEnd fault status faults told = (IsDaemonStatus fault status × Appends faults told (line_of fault)) ⊎ (status ≡ 4)
