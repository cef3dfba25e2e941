use Rattle.std.proofs.Common.{◌≡◌, drop}
use Rattle.std.specs.Prelude.{map}
use Rattle.memory_folder.specs.Left.{asked_to_stay}
use Rattle.memory_folder.proofs.files.asked_of.Given as goal

abbrev pub invariant-loop-named : goal.invariant-loop-named
invariant-loop-named l = asked_to_stay l.name (map (λ k. (k.0.now, k.1)) (drop l.named-index l.keep)) ≡ asked_to_stay l.name (map (λ k. (k.0.now, k.1)) l.keep)
