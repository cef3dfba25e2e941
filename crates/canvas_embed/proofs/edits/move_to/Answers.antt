use Rattle.std.proofs.Common.{refl}
use Rattle.std.proofs.lemmas.Result.{on_ok_weaker}
use Rattle.canvas_model.specs.Local.{Move}
use Rattle.canvas_embed.proofs.Touched.{made_only}
use Rattle.canvas_embed.proofs.edits.move_to.Goals as goal

pub returns-clause-changed : goal.returns-clause-changed
returns-clause-changed c = on_ok_weaker c.move_to.result (λ made. made_only c.args.client.now c.move_to.new.self (Move c.args.id (record { parent = c.args.parent; after = c.args.after })) c.args.id refl made) c.move_to.ensures.ok
