use Rattle.canvas_sockets.proofs.socket_link.read.Goals as goal

pub returns-in-Ok : goal.returns-in-Ok
returns-in-Ok c = (c.args.bytes.now, c.in-Ok.ensures.ok)
