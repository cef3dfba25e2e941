use Rattle.std.proofs.Common.{◌<◌, length}
use Rattle.canvas_doc.proofs.Levels.{IsLevel}
use Rattle.canvas_doc.proofs.Doc.reaches.Given as goal

abbrev pub invariant-loop : goal.invariant-loop
invariant-loop g l = IsLevel l.self l.counter l.fn.id l.level.items × (0 < length l.level.items)
