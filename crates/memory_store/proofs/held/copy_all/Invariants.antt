use Rattle.std.proofs.Common.{◌≡◌, take}
use Rattle.memory_store.specs.Held.{held_content}
use Rattle.memory_store.proofs.held.copy_all.Given as goal

abbrev pub invariant-loop-segment : goal.invariant-loop-segment
invariant-loop-segment l = held_content l.copy.items ≡ held_content (take l.segment-index l.held)
