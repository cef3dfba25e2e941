use Rattle.canvas_daemon.proofs.Playing.{PlaysBefore}
use Rattle.canvas_daemon.proofs.editing.play.Given as goal

-- the lines before this number were taken and answered
abbrev pub invariant-loop-number : goal.invariant-loop-number
invariant-loop-number g l =
    PlaysBefore l.fn.node.client (g.I.Read.remaining l.fn.input) (g.I.Read.remaining l.input) (g.W.Write.contents l.fn.output) (g.W.Write.contents l.output) l.node.client l.number
