use Rattle.std.proofs.lemmas.Result.{on_ok_weaker}
use Rattle.canvas_client.specs.Ends.{LiesFirst}
use Rattle.canvas_embed.proofs.Touched.{moved_there_only}
use Rattle.canvas_embed.proofs.placed.move_first.Goals as goal

pub returns-clause-changed : goal.returns-clause-changed
returns-clause-changed c = on_ok_weaker c.move_first.result (λ made. moved_there_only LiesFirst c.args.client.now c.move_first.new.self c.args.id c.args.parent made) c.move_first.ensures.ok
