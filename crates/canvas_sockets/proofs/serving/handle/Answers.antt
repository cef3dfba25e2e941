use Rattle.std.proofs.Common.{ap}
use Rattle.std.proofs.lemmas.Result.{err_from_is_err_and}
use Rattle.tungstenite.specs.Socket.{content_of}
use Rattle.canvas_sockets.proofs.Sending.{handles_binary, stops_binary}
use Rattle.canvas_sockets.proofs.serving.handle.Goals as goal

pub returns-in_ok-answer_bytes-in-Binary-clause-handles : goal.returns-in_ok-answer_bytes-in-Binary-clause-handles
returns-in_ok-answer_bytes-in-Binary-clause-handles g c =
    rw c.sent.ensures (handles_binary g.A.Answerer.gives g.S.Read.remaining g.S.Write.contents (content_of c.args.frame.now) c.in-Binary.bytes c.as_slice.result.now c.args.answerer.now c.args.socket.now c.answer_bytes.new.answerer c.answer_bytes.new.socket
    (ap content_of c.in-Binary.is) c.as_slice.ensures c.in_ok-answer_bytes-in-Binary.ensures.sends)

pub returns-in_err-answer_bytes-in-Binary-clause-stops : goal.returns-in_err-answer_bytes-in-Binary-clause-stops
returns-in_err-answer_bytes-in-Binary-clause-stops g c =
    let p = err_from_is_err_and c.from_residual.result c.from_residual.ensures.1 in
    rw (p.1, p.2) (stops_binary g.A.Answerer.gives g.S.Read.remaining g.S.Write.contents (content_of c.args.frame.now) c.in-Binary.bytes c.as_slice.result.now c.in_err-answer_bytes-in-Binary.field-0.0 c.args.answerer.now c.args.socket.now
    c.answer_bytes.new.answerer c.answer_bytes.new.socket (ap content_of c.in-Binary.is) c.as_slice.ensures c.in_err-answer_bytes-in-Binary.ensures.stops)
