use Rattle.std.proofs.Common.{refl}
use Rattle.std.proofs.lemmas.Result.{err_from_is_err_and}
use Rattle.tungstenite.specs.Content.{binary}
use Rattle.net_outbox.specs.Texts.{text_bytes}
use Rattle.canvas_sockets.proofs.Sending.{stopped_at, wrote_further}
use Rattle.canvas_sockets.proofs.turning.put_each.Goals as goal

pub loop-text-preserved : goal.loop-text-preserved
loop-text-preserved g c =
    wrote_further g.S.Write.contents text_bytes c.args.socket.now c.loop-text.socket c.put_text.new.socket c.args.texts.now c.loop-text.text-index c.text-item.result (binary (text_bytes c.text-item.result))
    c.loop-text-test.true c.text-item.is c.loop-text.invariant refl c.in_ok-put_text.ensures.writes

pub returns-in_err-put_text-clause-stops : goal.returns-in_err-put_text-clause-stops
returns-in_err-put_text-clause-stops g c =
    let p = err_from_is_err_and c.from_residual.result c.from_residual.ensures.1 in
    rw (p.1, p.2) (stopped_at g.S.Write.contents text_bytes c.args.socket.now c.loop-text.socket c.put_text.new.socket c.args.texts.now c.loop-text.text-index c.text-item.result c.in_err-put_text.field-0.0
    c.loop-text-test.true c.text-item.is c.loop-text.invariant c.in_err-put_text.ensures.refuses)
