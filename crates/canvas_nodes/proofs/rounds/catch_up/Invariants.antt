use Rattle.std.proofs.Common.{ℕ, ◌-◌, ◌^◌}
use Rattle.std.specs.Prelude.{IsSome}
use Rattle.canvas_nodes.specs.GoesOn.{GoesOn}
use Rattle.canvas_nodes.specs.Hears.{Climbs}
use Rattle.canvas_nodes.proofs.rounds.catch_up.Given as goal

abbrev pub invariant-asks : goal.invariant-asks
invariant-asks g l =
    GoesOn l.initial.client l.client
    × IsSome l.client.id
    × ((n : ℕ) × Climbs g.L.Link.gives g.L.Link.fails n l.initial.client l.initial.link l.client l.link)

abbrev pub decreases-asks : goal.decreases-asks
decreases-asks g l = 2 ^ 64 - l.client.version
