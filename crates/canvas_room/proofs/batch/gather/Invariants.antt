use Rattle.std.proofs.Common.{◌≡◌, ◌≤◌, vec_len}
use Rattle.std.specs.Prelude.{map, vec_capacity}
use Rattle.canvas_room.specs.Batches.{AreSeen, seen_of}
use Rattle.canvas_room.proofs.batch.gather.Given as goal

abbrev pub invariant-loop-turn : goal.invariant-loop-turn
invariant-loop-turn g l = record {
  requests : vec_len l.batch.requests ≤ l.most;
  senders : vec_len l.batch.senders ≡ vec_len l.batch.requests;
  runs : vec_len l.batch.runs ≤ l.turn;
  wide : l.most ≤ vec_capacity l.batch.requests;
  long : l.most ≤ vec_capacity l.batch.senders;
  places : 64 ≤ vec_capacity l.batch.runs;
  seen : AreSeen l.shown (map seen_of l.batch.senders.items);
}
