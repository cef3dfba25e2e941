use Rattle.std.proofs.Common.{inl}
use Rattle.std.specs.FinMap as map
use Rattle.app_admin.proofs.Standing.{bad_object, go_on}
use Rattle.app_admin.proofs.making.misplaced.Goals as goal

pub returns-in-Some-place_fault : goal.returns-in-Some-place_fault
returns-in-Some-place_fault c =
    bad_object c.args.doc.now c.next.new.self c.loop-row.row-iterator c.args.lines.now c.loop-row.left.now c.in_ok-line.more.now c.in-Some.row.now c.in_ok-line.line.now _ c.loop-row.invariant
    c.in-Some.ensures.steps c.in_ok-line.ensures.cases.0 (inl c.in-Some-place_fault.ensures)

pub loop-row-preserved : goal.loop-row-preserved
loop-row-preserved c =
    go_on (map.entries c.args.doc.now) c.next.new.self c.loop-row.row-iterator c.args.lines.now c.loop-row.left.now c.in_ok-line.more.now c.in-Some.row.now c.in_ok-line.line.now c.loop-row.invariant
    c.in-Some.ensures.steps c.in_ok-line.ensures.cases.0
