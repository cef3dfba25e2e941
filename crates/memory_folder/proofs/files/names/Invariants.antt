use Rattle.std.proofs.Common.{◌≡◌, ◌++◌, drop}
use Rattle.std.specs.Prelude.{map, string_bytes}
use Rattle.canvas_folder.specs.Files.{names_there}
use Rattle.memory_folder.specs.Held.{held_files}
use Rattle.memory_folder.proofs.files.names.Given as goal

abbrev pub invariant-loop-f : goal.invariant-loop-f
invariant-loop-f l = map string_bytes l.names.items ++ names_there (held_files (drop l.f-index l.files)) ≡ names_there (held_files l.files)
