-- What the room of a server opens with, and what it means that it isn't made.
use Rattle.std.specs.Prelude.{◌≡◌, ◌+◌, ◌*◌, ℕ, List}
use Rattle.canvas_shelf.specs.Disk.{Segment, seen}
use Rattle.canvas_journal.specs.Found.{Finds, IsState}
use Rattle.canvas_board.specs.Marks.{Opening}
use Rattle.canvas_room.specs.declared.faults.RoomError.{RoomError}
use Rattle.canvas_room.specs.declared.faults.RoomError.TheVariants as room
use Rattle.app_storage.specs.Faults.{IsWorkerCount}
use Rattle.app_faults.specs.declared.fault.Fault.{Fault}
use Rattle.app_faults.specs.declared.fault.Fault.TheVariants.{WorkerCount, Memory}

-- the fault that a room that isn't made is
abbrev pub fault_of_room_error : RoomError → Fault
fault_of_room_error room.SeatCount = WorkerCount
fault_of_room_error room.NoPlace = Memory
fault_of_room_error room.Memory = Memory

-- the room opens with what recovery finds on the disk
abbrev pub OpensAsFound : List Segment → Opening → Type 0
OpensAsFound disk o = Finds (seen disk) (IsState (o.state, o.version))

-- a room has two seats for each of so many workers, and one for copies
abbrev pub HasSeatsFor : ℕ → ℕ → Type 0
HasSeatsFor workers seats = IsWorkerCount workers → seats ≡ workers * 2 + 1
