use Rattle.std.proofs.Common.{◌≡◌, take}
use Rattle.std.specs.Prelude.{map}
use Rattle.canvas_folder.specs.Files.{as_sure}
use Rattle.memory_folder.specs.Held.{held_files}
use Rattle.memory_folder.proofs.Changing.{AllSure}
use Rattle.memory_folder.proofs.files.make_sure.Given as goal

abbrev pub invariant-loop-i : goal.invariant-loop-i
invariant-loop-i l = record {
  same : map as_sure (held_files l.files) ≡ map as_sure (held_files l.fn.files);
  sure : AllSure (take l.i l.files);
}
