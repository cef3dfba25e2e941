use Rattle.std.proofs.Common.{◌≡◌, ◌++◌, length, map}
use Rattle.std.specs.Vec.Iter.{into_iter_items, into_iter_len}
use Rattle.canvas_judge.specs.Seen.{seen_message}
use Rattle.room_handler.specs.Told.{seen_told}
use Rattle.room_handler.proofs.told.messages_of.Given as goal

-- what was copied and what is left to copy are all
abbrev pub invariant-loop-each : goal.invariant-loop-each
invariant-loop-each l = record {
  copied : map seen_message l.messages.items ++ map seen_told (into_iter_items l.each-iterator) ≡ map seen_told (into_iter_items l.initial.each-iterator);
  left : into_iter_len l.each-iterator ≡ length (into_iter_items l.each-iterator);
}
