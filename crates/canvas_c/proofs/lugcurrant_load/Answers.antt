use Rattle.std.proofs.Common.{rules}
use Rattle.canvas_c.proofs.Holding.{loaded_new}
use Rattle.canvas_c.proofs.lugcurrant_load.Goals as goal

pub returns-in-Ok : goal.returns-in-Ok
returns-in-Ok c = loaded_new c.args.bytes.now c.args.handle.now.kept.session c.put.new.self.kept.session c.in-Ok.session.value (search rules) (search rules) c.in-Ok.ensures.ok c.in-Ok.ensures.only
