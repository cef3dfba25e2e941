use Rattle.std.proofs.Common.{refl}
use Rattle.canvas_model.specs.Local.{Clear}
use Rattle.canvas_embed.proofs.Touched.{made_only}
use Rattle.canvas_embed.proofs.edits.clear.Goals as goal

pub returns-in-Ok-clear-clause-changed : goal.returns-in-Ok-clear-clause-changed
returns-in-Ok-clear-clause-changed c = made_only c.args.client.now c.clear.new.self (Clear c.args.id c.in-Ok.name) c.args.id refl c.in-Ok-clear.ensures.ok
