use Rattle.canvas_model.specs.Local.{Create}
use Rattle.canvas_embed.proofs.Touched.{created_only}
use Rattle.canvas_embed.proofs.edits.create.Goals as goal

pub returns-in-Ok-clause-changed : goal.returns-in-Ok-clause-changed
returns-in-Ok-clause-changed c =
    created_only c.args.client.now c.create.new.self (Create c.in-Some.kind (record { parent = c.args.parent; after = c.args.after })) c.in-Ok.made.1 c.in-Ok.ensures.ok
