use Rattle.std.proofs.Common.{List}
use Rattle.canvas_server.specs.Asked.{Asked}
use Rattle.canvas_desk.specs.Crashes.{LeadsByCalls}
use Rattle.canvas_room_tests.proofs.crashes.submit_each.Given as goal

-- the calls so far lead from the desk at first to this one
abbrev pub invariant-loop-request : goal.invariant-loop-request
invariant-loop-request g l = record {
  calls : List (List Asked);
  run : LeadsByCalls g.N.RoomName.opening g.K.Keeper.honest g.K.Keeper.moment g.K.Keeper.left_since g.K.Keeper.finds l.initial.desk calls l.desk;
}
