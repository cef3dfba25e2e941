use Rattle.canvas_client.specs.Ends.{LiesLast}
use Rattle.canvas_embed.proofs.Touched.{created_there_only}
use Rattle.canvas_embed.proofs.placed.create_last.Goals as goal

pub returns-in-Ok-clause-changed : goal.returns-in-Ok-clause-changed
returns-in-Ok-clause-changed c = created_there_only LiesLast c.args.client.now c.create_last.new.self c.in-Some.kind c.args.parent c.in-Ok.made.1 c.in-Ok.ensures.ok
