-- Each text so far tells what some client told.
use Rattle.std.specs.Prelude.{map}
use Rattle.canvas_turns.specs.Told.{AreAll}
use Rattle.app_server.specs.Live.{TellsSomeHere}
use Rattle.app_server.proofs.presence.Sayings.news.Given as goal

abbrev pub invariant-loop-number : goal.invariant-loop-number
invariant-loop-number l =
    (goal.iterator-loop-number).can_next l.number-iterator ×
    (goal.iterator-loop-number).is_finite l.number-iterator ×
    AreAll TellsSomeHere (map (λ t. t.items) l.texts.items)
