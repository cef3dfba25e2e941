use Rattle.std.specs.Prelude.{map}
use Rattle.std.specs.Vec.Iter.{into_iter_items}
use Rattle.canvas_server.specs.Asked.{seen_request}
use Rattle.canvas_room.specs.Batches.{AreSaid, seen_of}
use Rattle.canvas_room.proofs.batch.replies_of.Given as goal

abbrev pub invariant-loop-request : goal.invariant-loop-request
invariant-loop-request g l = AreSaid g.N.RoomName.opening l.due (map seen_request (into_iter_items l.request-iterator)) (map seen_of (into_iter_items l.senders)) (into_iter_items l.answers)
