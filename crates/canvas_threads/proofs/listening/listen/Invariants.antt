use Rattle.std.proofs.Common.{◌≡◌, List}
use Rattle.canvas_model.specs.Local as local
use Rattle.canvas_threads.specs.Shown.{FollowsRoom}
use Rattle.canvas_threads.proofs.listening.listen.Given as goal

abbrev pub invariant-loop : goal.invariant-loop
invariant-loop g l = record {
  same : l.client.id ≡ l.initial.client.id;
  follows : (requests : List local.EditRequest) → FollowsRoom g.N.RoomName.opening requests l.initial.seat l.initial.client → FollowsRoom g.N.RoomName.opening requests l.seat l.client;
}
