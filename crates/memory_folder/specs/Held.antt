-- What files in memory stand for.
use Rattle.std.specs.Prelude.{ℕ, List, map, Option, Some, None, Vec}
use Rattle.std.specs.declared.alloc.Global.{Global}
use Rattle.canvas_folder.specs.Files.{File, Files}
use Rattle.memory_folder.specs.declared.held.Held.{Held}
use Rattle.memory_folder.specs.declared.held.Moment.{Moment}

abbrev pub synced_of : Option (Vec ℕ Global) → Option (List ℕ)
synced_of None = None
synced_of (Some v) = Some v.items

-- the file that it stands for
abbrev pub file_of : Held → File
file_of h = record { name = h.name.items; there = h.there; sure = h.sure; again = h.again; synced = synced_of h.synced; bytes = h.bytes.items }

abbrev pub held_files : List Held → List File
held_files = map file_of

-- what the folder was
abbrev pub files_of : Moment → Files
files_of m = record { placed = m.placed; doubt = m.doubt; files = held_files m.files.items }

abbrev pub moments_of : List Moment → List Files
moments_of = map files_of
