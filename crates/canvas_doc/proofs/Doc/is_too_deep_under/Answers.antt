use Rattle.canvas_doc.proofs.Levels.{deep_under, deep_nowhere}
use Rattle.canvas_doc.proofs.Doc.is_too_deep_under.Goals as goal

pub returns-in-Some : goal.returns-in-Some
returns-in-Some g c = deep_under c.args.self.now c.args.parent c.in-Some.depth c.objects-objects.ensures.document c.in-Some.ensures

pub returns-in-None : goal.returns-in-None
returns-in-None g c = deep_nowhere c.args.self.now c.args.parent c.in-None.ensures
