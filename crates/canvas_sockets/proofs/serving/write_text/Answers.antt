use Rattle.std.proofs.lemmas.Result.{err_from_is_err_and}
use Rattle.canvas_sockets.proofs.Sending.{no_memory}
use Rattle.canvas_sockets.proofs.serving.write_text.Goals as goal

pub returns-in_err-frame-clause-refuses : goal.returns-in_err-frame-clause-refuses
returns-in_err-frame-clause-refuses g c =
    let p = err_from_is_err_and c.from_residual.result c.from_residual.ensures.1 in
    rw (p.1, p.2) (no_memory g.S.Write.contents c.args.socket.now c.args.text.now)
