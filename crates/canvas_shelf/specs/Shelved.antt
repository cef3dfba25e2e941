-- A shelf in memory, as what it stands for.
use Rattle.std.specs.Prelude.{ℕ, Bool, List}
use Rattle.canvas_shelf.specs.Disk.{Segment}
use Rattle.canvas_shelf.specs.Failing.{fails}
use Rattle.canvas_shelf.specs.Held.{held_disk, held_disks}
use Rattle.canvas_shelf.specs.declared.memory.MemShelf.{MemShelf}
use Rattle.canvas_shelf.specs.declared.calls.Call.{Call}

-- its segments
abbrev pub disk_of : MemShelf → List Segment
disk_of shelf = held_disk shelf.segments.items

-- what they were before each call that changed them
abbrev pub past_of : MemShelf → List (List Segment)
past_of shelf = held_disks shelf.past.items

-- the calls that were made of it
abbrev pub calls_of : MemShelf → List Call
calls_of shelf = shelf.calls.items

-- whether the call after so many others is to fail
abbrev pub will_fail : MemShelf → ℕ → Bool
will_fail shelf n = fails shelf.failing n

-- how many calls have failed
abbrev pub failures_of : MemShelf → ℕ
failures_of shelf = shelf.failures
