use Rattle.std.specs.FinMap as map
use Rattle.app_admin.proofs.Standing.{Begun}
use Rattle.app_admin.proofs.making.misplaced.Given as goal

-- the rows so far are taken
abbrev pub invariant-loop-row : goal.invariant-loop-row
invariant-loop-row l = Begun (map.entries l.doc) l.row-iterator l.lines l.left
