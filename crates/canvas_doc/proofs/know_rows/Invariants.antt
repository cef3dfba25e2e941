use Rattle.std.proofs.Common.{All, take}
use Rattle.canvas_doc.specs.Known.{IsRow}
use Rattle.canvas_doc.proofs.know_rows.Given as goal

-- the first ones are so
abbrev pub invariant-loop-pair : goal.invariant-loop-pair
invariant-loop-pair g l = All IsRow (take l.pair-index l.objects)
