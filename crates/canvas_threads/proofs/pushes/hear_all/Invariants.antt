use Rattle.std.proofs.Common.{ℕ, ◌-◌, ◌^◌}
use Rattle.std.specs.Prelude.{IsSome}
use Rattle.canvas_nodes.specs.GoesOn.{GoesOn}
use Rattle.canvas_nodes.specs.Hears.{Climbs}
use Rattle.room_handler.specs.Links.{Grants, RefusesRound}
use Rattle.canvas_threads.proofs.pushes.hear_all.Given as goal

abbrev pub invariant-pushes : goal.invariant-pushes
invariant-pushes g l =
    GoesOn l.initial.client l.client
    × IsSome l.client.id
    × ((n : ℕ) × Climbs (Grants g.N.RoomName.opening) (RefusesRound g.N.RoomName.opening) n l.initial.client l.initial.seat l.client l.seat)

abbrev pub decreases-pushes : goal.decreases-pushes
decreases-pushes g l = 2 ^ 64 - l.client.version
