use Rattle.std.proofs.Common.{refl}
use Rattle.std.proofs.lemmas.Result.{on_ok_weaker}
use Rattle.canvas_model.specs.Local.{Delete}
use Rattle.canvas_embed.proofs.Touched.{made_only}
use Rattle.canvas_embed.proofs.edits.delete.Goals as goal

pub returns-clause-changed : goal.returns-clause-changed
returns-clause-changed c = on_ok_weaker c.delete.result (λ made. made_only c.args.client.now c.delete.new.self (Delete c.args.id) c.args.id refl made) c.delete.ensures.ok
