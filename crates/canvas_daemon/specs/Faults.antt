-- What ends the program early, and how it is told.
use Rattle.std.specs.Prelude.{◌≡◌, ◌⊎◌, ℕ, List, [], ◌∷◌, ◌++◌, codes, Option}
use Rattle.std.specs.Fmt.{decimal}
use Rattle.std.specs.Io.KnownBytes.{Appends}
use Rattle.canvas_folder.specs.declared.error.FolderError.{FolderError}
use Rattle.canvas_folder.specs.declared.error.FolderError.TheVariants as folder
use Rattle.canvas_journal.specs.declared.fault.OpenError.{OpenError}
use Rattle.canvas_journal.specs.declared.fault.OpenError.TheVariants as opening
use Rattle.canvas_nodes.specs.declared.link.LinkError.{LinkError}
use Rattle.canvas_nodes.specs.declared.link.LinkError.TheVariants as link
use Rattle.canvas_room.specs.declared.faults.RoomError.{RoomError}
use Rattle.canvas_room.specs.declared.faults.RoomError.TheVariants as room
use Rattle.canvas_lines.specs.declared.fault.Fault as lines
use Rattle.canvas_lines.specs.declared.fault.Fault.TheVariants as line
use Rattle.canvas_daemon.specs.declared.fault.DaemonFault.{DaemonFault}
use Rattle.canvas_daemon.specs.declared.fault.DaemonFault.TheVariants.{Usage, BadLine, Memory, Device, Damaged, TooLarge}

-- 2 for words or a line that can't be read, 3 for want of memory, 4 for a device, socket or stream that failed, 5 for a damaged
-- journal, 6 for one without room
abbrev pub IsDaemonStatus : DaemonFault → ℕ → Type 0
IsDaemonStatus Usage status = status ≡ 2
IsDaemonStatus (BadLine n) status = status ≡ 2
IsDaemonStatus Memory status = status ≡ 3
IsDaemonStatus Device status = status ≡ 4
IsDaemonStatus (Damaged segment offset) status = status ≡ 5
IsDaemonStatus TooLarge status = status ≡ 6

-- the text of a fault
abbrev pub daemon_fault_text : DaemonFault → List ℕ
daemon_fault_text Usage = codes "usage: canvasd serve DIR PORT N | edit PORT | show DIR | trial DIR"
daemon_fault_text (BadLine n) = codes "line " ++ decimal n ++ codes ": cannot read"
daemon_fault_text Memory = codes "out of memory"
daemon_fault_text Device = codes "device or socket failed"
daemon_fault_text (Damaged segment offset) = codes "damaged segment " ++ decimal segment ++ codes " offset " ++ decimal offset
daemon_fault_text TooLarge = codes "too large"

-- a fault is told by its text in a line of its own
abbrev pub daemon_fault_line : DaemonFault → List ℕ
daemon_fault_line fault = daemon_fault_text fault ++ 10 ∷ []

-- the fault's status where it was told, or 4
abbrev pub IsDaemonEnd : DaemonFault → ℕ → Option (List ℕ) → Option (List ℕ) → Type 0
IsDaemonEnd fault status faults told =
    (IsDaemonStatus fault status × Appends faults told (daemon_fault_line fault)) ⊎ (status ≡ 4)

-- the fault that a journal that isn't opened is
abbrev pub fault_of_opening : OpenError → DaemonFault
fault_of_opening opening.Device = Device
fault_of_opening (opening.Damaged segment offset) = Damaged segment offset
fault_of_opening opening.TooLarge = TooLarge
fault_of_opening opening.Memory = Memory

-- the fault that a folder that isn't opened is: whatever the reason, but for want of memory, is a failed device
abbrev pub fault_of_folder : FolderError → DaemonFault
fault_of_folder folder.InUse = Device
fault_of_folder folder.Denied = Device
fault_of_folder folder.AboveDenied = Device
fault_of_folder folder.NoDescriptor = Device
fault_of_folder folder.NoSpace = Device
fault_of_folder folder.Device = Device
fault_of_folder folder.Memory = Memory

-- the fault that a room that isn't made is
abbrev pub fault_of_room : RoomError → DaemonFault
fault_of_room room.SeatCount = Usage
fault_of_room room.NoPlace = Memory
fault_of_room room.Memory = Memory

-- the fault that a round without an answer is
abbrev pub fault_of_link : LinkError → DaemonFault
fault_of_link link.Memory = Memory
fault_of_link link.Ended = Device
fault_of_link (link.Refused reason) = Device
fault_of_link link.NotRead = Device

-- the fault that a line or a stream is
abbrev pub fault_of_lines : lines.Fault → DaemonFault
fault_of_lines (line.BadLine n) = BadLine n
fault_of_lines line.Memory = Memory
fault_of_lines line.Stream = Device

-- the fault is want of memory, or a device, socket or stream that failed
abbrev pub IsMemoryOrDevice : DaemonFault → Type 0
IsMemoryOrDevice Usage = ⊥
IsMemoryOrDevice (BadLine n) = ⊥
IsMemoryOrDevice Memory = Unit {0}
IsMemoryOrDevice Device = Unit {0}
IsMemoryOrDevice (Damaged segment offset) = ⊥
IsMemoryOrDevice TooLarge = ⊥
