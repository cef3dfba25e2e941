use Rattle.std.proofs.lemmas.Result.{on_ok_weaker}
use Rattle.canvas_client.specs.Ends.{LiesLast}
use Rattle.canvas_embed.proofs.Touched.{moved_there_only}
use Rattle.canvas_embed.proofs.placed.move_last.Goals as goal

pub returns-clause-changed : goal.returns-clause-changed
returns-clause-changed c = on_ok_weaker c.move_last.result (λ made. moved_there_only LiesLast c.args.client.now c.move_last.new.self c.args.id c.args.parent made) c.move_last.ensures.ok
