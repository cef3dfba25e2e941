use Rattle.tungstenite.specs.Failure.{IsIo}
use Rattle.tungstenite.specs.Socket.{content_of}
use Rattle.tungstenite.specs.declared.error.Error.{Error}
use Rattle.canvas_sockets.specs.Turned.{RefusesFrame}
use Rattle.canvas_sockets.proofs.Putting.{at_err, refused_frame}
use Rattle.canvas_sockets.proofs.turning.put_frame.Goals as goal

pub returns-clause-refuses : goal.returns-clause-refuses
returns-clause-refuses g c =
    let content = content_of c.args.frame in
    at_err (λ (e : Error). IsIo e → ⊥) (λ (e : Error). RefusesFrame g.S.Write.contents c.args.socket.now content e c.write.new.self) c.write.result
    (λ e same no_io. refused_frame g.S.Write.contents c.args.socket.now c.write.new.self content e same no_io) c.write.ensures.stays c.write.ensures.no_io
