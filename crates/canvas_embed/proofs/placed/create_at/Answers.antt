use Rattle.canvas_embed.specs.Places.{place}
use Rattle.canvas_embed.proofs.Touched.{created_at_only}
use Rattle.canvas_embed.proofs.placed.create_at.Goals as goal

pub returns-in-Ok-create_at-clause-changed : goal.returns-in-Ok-create_at-clause-changed
returns-in-Ok-create_at-clause-changed c =
    created_at_only c.args.client.now c.create_at.new.self c.in-Some.kind (place c.args.parent c.in-Ok.pos) c.in-Ok-create_at.made.1 c.in-Ok-create_at.ensures.ok
