use Rattle.std.proofs.Common.{take}
use Rattle.canvas_doc.specs.Levels.{AreUnder}
use Rattle.canvas_doc.proofs.Doc.all_under.Given as goal

abbrev pub invariant-loop-parent : goal.invariant-loop-parent
invariant-loop-parent g l = AreUnder l.self (take l.parent-index l.parents) l.ids.items
