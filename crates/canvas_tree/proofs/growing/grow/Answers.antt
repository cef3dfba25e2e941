use Rattle.canvas_model.specs.Chain.{itself}
use Rattle.canvas_doc.proofs.Levels.{root_alive}
use Rattle.canvas_tree.proofs.growing.grow.Goals as goal

pub grow_at-requires-clause-in_tree : goal.grow_at-requires-clause-in_tree
grow_at-requires-clause-in_tree g c = itself (root_alive c.args.doc.now c.object.ensures.document)
