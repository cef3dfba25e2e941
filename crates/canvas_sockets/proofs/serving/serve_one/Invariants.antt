use Rattle.canvas_sockets.specs.Served.{GoesThrough}
use Rattle.canvas_sockets.proofs.serving.serve_one.Given as goal

abbrev pub invariant-loop-turn : goal.invariant-loop-turn
invariant-loop-turn g l = GoesThrough g.A.Answerer.gives g.S.Read.remaining g.S.Write.contents l._turn l.initial.answerer l.initial.socket l.answerer l.socket
