use Rattle.std.proofs.Common.{subst}
use Rattle.std.proofs.lemmas.Result.{err_from_is_err_and}
use mathlib.Core.Logic.{inr}
use Rattle.tungstenite.specs.Socket.{content_of}
use Rattle.canvas_sockets.specs.Turned.{Puts}
use Rattle.canvas_sockets.proofs.turning.take_next.Goals as goal

pub returns-in_err-put_reply-clause-stops : goal.returns-in_err-put_reply-clause-stops
returns-in_err-put_reply-clause-stops g c =
    let p = err_from_is_err_and c.from_residual.result c.from_residual.ensures.1 in
    rw (p.1, p.2) (inr (c.in-Ok.frame, c.in-Ok.ensures, c.in_err-put_reply.ensures.stops))

pub returns-then-branch-clause-takes : goal.returns-then-branch-clause-takes
returns-then-branch-clause-takes g c = (
  c.in-Ok.frame,
  c.in-Ok.ensures,
  subst (λ on. Puts g.A.Replier.replies g.O.Write.contents (content_of c.in-Ok.frame) on c.args.replier.now c.args.line.now.writer c.put_reply.new.replier c.put_reply.new.writer) c.if-branch.true c.in_ok-put_reply.ensures.puts,
)

pub returns-else-branch-clause-takes : goal.returns-else-branch-clause-takes
returns-else-branch-clause-takes g c = (
  c.in-Ok.frame,
  c.in-Ok.ensures,
  subst (λ on. Puts g.A.Replier.replies g.O.Write.contents (content_of c.in-Ok.frame) on c.args.replier.now c.args.line.now.writer c.put_reply.new.replier c.put_reply.new.writer) c.if-branch.false c.in_ok-put_reply.ensures.puts,
)
