use Rattle.canvas_sockets.specs.Turned.{TakesEach}
use Rattle.canvas_sockets.proofs.turning.take_turn.Given as goal

abbrev pub invariant-loop-count : goal.invariant-loop-count
invariant-loop-count g l =
    TakesEach g.A.Replier.replies g.I.Read.remaining g.O.Write.contents g.O.Backlog.waits l.room l._count l.initial.replier l.initial.line l.replier l.line
