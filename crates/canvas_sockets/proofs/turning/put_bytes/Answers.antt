use Rattle.std.proofs.Common.{◌++◌}
use Rattle.tungstenite.specs.Failure.{IsIo}
use Rattle.tungstenite.specs.declared.error.Error.{Error}
use Rattle.canvas_sockets.specs.Served.{RefusesText}
use Rattle.canvas_sockets.proofs.Putting.{at_err, refused_text}
use Rattle.canvas_sockets.proofs.turning.put_bytes.Goals as goal

pub returns-clause-refuses : goal.returns-clause-refuses
returns-clause-refuses g c =
    let text = c.args.own.now ++ c.args.shared.now in
    at_err (λ (e : Error). IsIo e → ⊥) (λ (e : Error). RefusesText g.S.Write.contents c.args.socket.now text e c.write_text.new.self) c.write_text.result
    (λ e same no_io. refused_text g.S.Write.contents c.args.socket.now c.write_text.new.self text e same no_io) c.write_text.ensures.stays c.write_text.ensures.no_io
