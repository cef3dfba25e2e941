use Rattle.std.proofs.Common.{ap}
use Rattle.std.proofs.lemmas.Result.{err_from_is_err_and}
use Rattle.tungstenite.specs.Socket.{content_of}
use Rattle.canvas_sockets.proofs.Putting.{puts_binary, stops_binary}
use Rattle.canvas_sockets.proofs.turning.put_reply.Goals as goal

pub returns-in-Binary-clause-puts : goal.returns-in-Binary-clause-puts
returns-in-Binary-clause-puts g c =
    rw c.sent.ensures (puts_binary g.A.Replier.replies g.O.Write.contents (content_of c.args.frame) c.in-Binary.bytes c.as_slice.result.now c.args.replier.now c.args.writer.now c.put_answer.new.replier c.put_answer.new.writer
    (ap content_of c.in-Binary.is) c.as_slice.ensures c.in_ok-put_answer-in-Binary.ensures.puts)

pub returns-in_err-put_answer-in-Binary-clause-stops : goal.returns-in_err-put_answer-in-Binary-clause-stops
returns-in_err-put_answer-in-Binary-clause-stops g c =
    let p = err_from_is_err_and c.from_residual.result c.from_residual.ensures.1 in
    rw (p.1, p.2) (stops_binary g.A.Replier.replies g.O.Write.contents (content_of c.args.frame) c.in-Binary.bytes c.as_slice.result.now c.in_err-put_answer-in-Binary.field-0.0 c.args.replier.now c.args.writer.now
    c.put_answer.new.replier c.put_answer.new.writer (ap content_of c.in-Binary.is) c.as_slice.ensures c.in_err-put_answer-in-Binary.ensures.stops)
