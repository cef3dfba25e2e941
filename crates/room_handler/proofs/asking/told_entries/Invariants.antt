use Rattle.std.proofs.Common.{◌≡◌, ◌+◌, ◌<◌, ◌^◌, ◌++◌, length, map}
use Rattle.std.specs.Vec.Iter.{into_iter_items, into_iter_len}
use Rattle.room_handler.specs.News.{tells}
use Rattle.room_handler.specs.Told.{seen_told}
use Rattle.room_handler.proofs.asking.told_entries.Given as goal

-- what was told and what is left to tell are all
abbrev pub invariant-loop-entry : goal.invariant-loop-entry
invariant-loop-entry l = record {
  told : map seen_told l.told.items ++ tells l.version (into_iter_items l.entry-iterator) ≡ tells l.from (into_iter_items l.initial.entry-iterator);
  few : l.version + length (into_iter_items l.entry-iterator) < 2 ^ 64;
  left : into_iter_len l.entry-iterator ≡ length (into_iter_items l.entry-iterator);
}
