use Rattle.std.proofs.Common.{◌≡◌}
use Rattle.canvas_threads.proofs.client_node.obey_all.Given as goal

abbrev pub invariant-loop-command : goal.invariant-loop-command
invariant-loop-command g l =
    (goal.iterator-loop-command g).can_next l.command-iterator
    × (goal.iterator-loop-command g).is_finite l.command-iterator
    × (l.client.id ≡ l.initial.client.id)
