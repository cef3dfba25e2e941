use Rattle.std.proofs.Common.{subst}
use Rattle.std.proofs.lemmas.Result.{IfErr-weaker, IfOk-weaker}
use Rattle.canvas_model.specs.Ids.{root}
use Rattle.canvas_client.specs.Ends.{LiesFirst}
use Rattle.canvas_client.specs.Placed.{Create}
use Rattle.canvas_client.proofs.AtEnds.{created_there, end_error}
use Rattle.canvas_client.proofs.client.Client.create_first.Goals as goal

pub returns-clause-ok : goal.returns-clause-ok
returns-clause-ok g c =
    let lies : LiesFirst c.args.self.now.view c.args.parent root c.in_ok-pos.pos = subst (λ d. LiesFirst d c.args.parent root c.in_ok-pos.pos) c.view.ensures.view c.in_ok-pos.ensures in
    IfOk-weaker c.create_there.result _ _ (λ made. created_there LiesFirst c.args.self.now c.args.parent c.in_ok-pos.pos c.args.kind made.1 c.create_there.new.self lies) c.create_there.ensures.ok

pub returns-clause-refused : goal.returns-clause-refused
returns-clause-refused g c =
    let lies : LiesFirst c.args.self.now.view c.args.parent root c.in_ok-pos.pos = subst (λ d. LiesFirst d c.args.parent root c.in_ok-pos.pos) c.view.ensures.view c.in_ok-pos.ensures in
    IfErr-weaker c.create_there.result _ _ (end_error LiesFirst c.args.self.now c.args.parent c.in_ok-pos.pos root (Create c.args.kind) lies) c.create_there.ensures.refused
