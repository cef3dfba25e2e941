use Rattle.std.proofs.Common.{◌<◌, ℕ, get_or}
use Rattle.memory_store.specs.declared.held.Held.{Held}
use Rattle.memory_store.proofs.held.place.Given as goal

abbrev pub invariant-loop-i : goal.invariant-loop-i
invariant-loop-i l = (k : ℕ) (h : Held) → k < l.i → l.number < (get_or l.held k h).number
