use Rattle.std.proofs.Common.{◌<◌, length}
use Rattle.canvas_doc.proofs.Levels.{IsLevel}
use Rattle.canvas_doc.proofs.Doc.height.Given as goal

abbrev pub invariant-loop-steps : goal.invariant-loop-steps
invariant-loop-steps g l = IsLevel l.self l.steps l.fn.id l.level.items × (0 < length l.level.items)
