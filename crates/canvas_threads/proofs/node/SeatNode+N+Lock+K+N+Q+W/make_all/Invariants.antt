use Rattle.std.proofs.Common.{◌≡◌, ◌≤◌, take}
use Rattle.canvas_threads.specs.Shown.{FollowsRoom}
use Rattle.canvas_threads.proofs.node.SeatNode+N+Lock+K+N+Q+W.make_all.Given as goal

abbrev pub invariant-loop-request : goal.invariant-loop-request
invariant-loop-request g l = record {
  same : l.self.client.id ≡ l.initial.self.client.id;
  follows : FollowsRoom g.N.RoomName.opening (take l.request-index l.edits) l.self.link l.self.client;
  few : l.calls ≤ l.request-index;
}
