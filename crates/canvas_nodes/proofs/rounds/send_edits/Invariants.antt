use Rattle.std.proofs.Common.{◌-◌, ◌≤◌}
use Rattle.canvas_nodes.specs.GoesOn.{GoesOn}
use Rattle.canvas_nodes.specs.Hears.{SendsEach}
use Rattle.canvas_nodes.proofs.rounds.send_edits.Given as goal

abbrev pub invariant-loop-before : goal.invariant-loop-before
invariant-loop-before g l =
    GoesOn l.initial.client l.client
    × (l.initial.client.acknowledged ≤ l.before)
    × SendsEach g.L.Link.gives g.L.Link.fails l.initial.client.acknowledged (l.before - l.initial.client.acknowledged) l.initial.client l.initial.link l.client l.link
