use Rattle.std.proofs.lemmas.Result.{err_from_is_err_and, IfErr-weaker, on_ok_weaker}
use Rattle.tungstenite.specs.Failure.{IsIo}
use Rattle.tungstenite.specs.declared.error.Error.{Error}
use Rattle.canvas_nodes.specs.Answers.{refusal_alone}
use Rattle.canvas_sockets.specs.Served.{StopsAnswer}
use Rattle.canvas_sockets.proofs.Sending.{refuses_one, sends_one, stops_one}
use Rattle.canvas_sockets.proofs.serving.refuse.Goals as goal

pub returns-clause-sends : goal.returns-clause-sends
returns-clause-sends g c =
    on_ok_weaker c.flush.result
    (λ empty. sends_one g.S.Write.contents c.args.socket.now c.write_text.new.socket c.flush.new.self c.no_text.result.now (refusal_alone c.args.reason) (c.no_text.ensures, tt) c.in_ok-write_text.ensures.writes c.flush.ensures.sent empty)
    c.flush.ensures.empty

pub returns-clause-stops : goal.returns-clause-stops
returns-clause-stops g c =
    IfErr-weaker c.flush.result IsIo (λ (e : Error). StopsAnswer g.S.Write.contents c.args.socket.now (refusal_alone c.args.reason) e c.flush.new.self)
    (λ e io. stops_one g.S.Write.contents c.args.socket.now c.write_text.new.socket c.flush.new.self c.no_text.result.now (refusal_alone c.args.reason) e (c.no_text.ensures, tt) c.in_ok-write_text.ensures.writes c.flush.ensures.sent io)
    c.flush.ensures.only_io

pub returns-in_err-write_text-clause-stops : goal.returns-in_err-write_text-clause-stops
returns-in_err-write_text-clause-stops g c =
    let p = err_from_is_err_and c.from_residual.result c.from_residual.ensures.1 in
    rw (p.1, p.2) (refuses_one g.S.Write.contents c.args.socket.now c.write_text.new.socket c.no_text.result.now (refusal_alone c.args.reason) c.in_err-write_text.field-0.0 (c.no_text.ensures, tt) c.in_err-write_text.ensures.refuses)
