use Rattle.std.proofs.Common.{subst}
use Rattle.std.proofs.lemmas.Result.{IfErr-weaker, on_ok_weaker}
use Rattle.canvas_client.specs.Ends.{LiesFirst}
use Rattle.canvas_client.specs.Placed.{Move}
use Rattle.canvas_client.proofs.AtEnds.{moved_there, end_error}
use Rattle.canvas_client.proofs.client.Client.move_first.Goals as goal

pub returns-clause-ok : goal.returns-clause-ok
returns-clause-ok g c =
    let lies : LiesFirst c.args.self.now.view c.args.parent c.args.id c.in_ok-pos.pos = subst (λ d. LiesFirst d c.args.parent c.args.id c.in_ok-pos.pos) c.view.ensures.view c.in_ok-pos.ensures in
    on_ok_weaker c.move_there.result (moved_there LiesFirst c.args.self.now c.args.parent c.in_ok-pos.pos c.args.id c.move_there.new.self lies) c.move_there.ensures.ok

pub returns-clause-refused : goal.returns-clause-refused
returns-clause-refused g c =
    let lies : LiesFirst c.args.self.now.view c.args.parent c.args.id c.in_ok-pos.pos = subst (λ d. LiesFirst d c.args.parent c.args.id c.in_ok-pos.pos) c.view.ensures.view c.in_ok-pos.ensures in
    IfErr-weaker c.move_there.result _ _ (end_error LiesFirst c.args.self.now c.args.parent c.in_ok-pos.pos c.args.id (Move c.args.id) lies) c.move_there.ensures.refused
