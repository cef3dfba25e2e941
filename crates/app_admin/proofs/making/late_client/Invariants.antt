use Rattle.std.proofs.Common.{drop}
use Rattle.app_admin.proofs.Standing.{Begun}
use Rattle.app_admin.proofs.making.late_client.Given as goal

-- the rows so far are taken
abbrev pub invariant-loop-row : goal.invariant-loop-row
invariant-loop-row l = Begun l.rows (drop l.row-index l.rows) l.lines l.left
