use Rattle.canvas_embed.specs.Places.{place}
use Rattle.canvas_embed.proofs.Touched.{moved_at_only}
use Rattle.canvas_embed.proofs.placed.move_at.Goals as goal

pub returns-in-Ok-move_at-clause-changed : goal.returns-in-Ok-move_at-clause-changed
returns-in-Ok-move_at-clause-changed c = moved_at_only c.args.client.now c.move_at.new.self c.args.id (place c.args.parent c.in-Ok.pos) c.in-Ok-move_at.ensures.ok
