use Rattle.std.proofs.lemmas.Result.{IfOk-weaker}
use Rattle.canvas_doc.proofs.Levels.{moves_deep, moves_nowhere}
use Rattle.canvas_doc.proofs.Doc.moves_too_deep.Goals as goal

pub returns-in-Some : goal.returns-in-Some
returns-in-Some g c =
    IfOk-weaker c.reaches.result _ _
    (λ far reach. moves_deep c.args.self.now c.args.id c.args.parent c.in-Some.depth c.saturating_sub.result c.stands_under.result far c.objects-objects.ensures.document c.in-Some.ensures c.saturating_sub.ensures c.stands_under.ensures c.if-stands_under.false reach)
    c.reaches.ensures

pub returns-in-None : goal.returns-in-None
returns-in-None g c = moves_nowhere c.args.self.now c.args.id c.args.parent c.in-None.ensures
