use Rattle.std.proofs.Common.{◌≡◌, ◌++◌, length}
use Rattle.std.specs.Vec.Iter.{into_iter_items, into_iter_len}
use Rattle.canvas_room.proofs.room.seats_of.Given as goal

abbrev pub invariant-loop-reader : goal.invariant-loop-reader
invariant-loop-reader g l = (l.seats.items ++ into_iter_items l.reader-iterator ≡ into_iter_items l.initial.reader-iterator)
    × (into_iter_len l.reader-iterator ≡ length (into_iter_items l.reader-iterator))
