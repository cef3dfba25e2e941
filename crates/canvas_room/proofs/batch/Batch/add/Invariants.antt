use Rattle.std.proofs.Common.{◌≡◌, ◌+◌, List, vec_len}
use Rattle.std.specs.Prelude.{map, vec_capacity}
use Rattle.std.specs.Vec.Iter.{into_iter_len}
use mathlib.Core.List.{IsPrefix}
use Rattle.canvas_board.specs.Marks.{Mark}
use Rattle.canvas_room.specs.Batches.{AreSeen, seen_of}
use Rattle.canvas_room.proofs.batch.Batch.add.Given as goal

abbrev pub invariant-loop-request : goal.invariant-loop-request
invariant-loop-request g l = record {
  requests : vec_len l.self.requests + into_iter_len l.request-iterator ≡ vec_len l.initial.self.requests + into_iter_len l.initial.request-iterator;
  senders : vec_len l.self.senders + into_iter_len l.request-iterator ≡ vec_len l.initial.self.senders + into_iter_len l.initial.request-iterator;
  wide : vec_capacity l.self.requests ≡ vec_capacity l.initial.self.requests;
  long : vec_capacity l.self.senders ≡ vec_capacity l.initial.self.senders;
  runs : l.self.runs ≡ l.initial.self.runs;
  seen : (history : List Mark) → IsPrefix l.seen history → AreSeen history (map seen_of l.initial.self.senders.items) → AreSeen history (map seen_of l.self.senders.items);
}
