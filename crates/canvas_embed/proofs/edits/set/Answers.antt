use Rattle.std.proofs.Common.{refl}
use Rattle.canvas_model.specs.Local.{Set}
use Rattle.canvas_embed.proofs.Touched.{made_only}
use Rattle.canvas_embed.proofs.edits.set.Goals as goal

pub returns-in-Ok-set-clause-changed : goal.returns-in-Ok-set-clause-changed
returns-in-Ok-set-clause-changed c = made_only c.args.client.now c.set.new.self (Set c.args.id c.in-Ok.name c.in-Ok-read_value.value) c.args.id refl c.in-Ok-set.ensures.ok
