use Rattle.memory_folder.proofs.Changing.{Misses}
use Rattle.memory_folder.proofs.files.find.Given as goal

abbrev pub invariant-loop-i : goal.invariant-loop-i
invariant-loop-i l = Misses l.files l.name l.i
