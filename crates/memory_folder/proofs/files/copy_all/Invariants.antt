use Rattle.std.proofs.Common.{◌≡◌, take}
use Rattle.memory_folder.specs.Held.{held_files}
use Rattle.memory_folder.proofs.files.copy_all.Given as goal

abbrev pub invariant-loop-f : goal.invariant-loop-f
invariant-loop-f l = held_files l.copy.items ≡ held_files (take l.f-index l.files)
