use Rattle.std.proofs.Common.{◌≡◌, ◌++◌, Ok, length, map}
use Rattle.std.specs.Vec.Iter.{into_iter_items, into_iter_len}
use Rattle.canvas_threads.proofs.nodes.all_done.Given as goal

abbrev pub invariant-loop-done : goal.invariant-loop-done
invariant-loop-done g l = record {
  done : map Ok l.all.items ++ into_iter_items l.done-iterator ≡ into_iter_items l.initial.done-iterator;
  left : into_iter_len l.done-iterator ≡ length (into_iter_items l.done-iterator);
}
