-- A folder in memory, as what it stands for.
use Rattle.std.specs.Prelude.{ℕ, Bool, List}
use Rattle.canvas_folder.specs.Files.{Files}
use Rattle.memory_folder.specs.Failing.{folder_call_fails}
use Rattle.memory_folder.specs.Held.{held_files, moments_of}
use Rattle.memory_folder.specs.declared.folder.MemFolder.{MemFolder}

-- what stands, and what of it is certain
abbrev pub value_of : MemFolder → Files
value_of m = record { placed = m.placed; doubt = m.doubt; files = held_files m.files.items }

-- what it was before each call that may have changed it
abbrev pub folder_past : MemFolder → List Files
folder_past m = moments_of m.past.items

-- whether the call after so many others is to fail
abbrev pub folder_will_fail : MemFolder → ℕ → Bool
folder_will_fail m n = folder_call_fails m.failing n

abbrev pub folder_failures : MemFolder → ℕ
folder_failures m = m.failures

abbrev pub locked_of : MemFolder → Bool
locked_of m = m.locked
