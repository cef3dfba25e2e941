use Rattle.std.proofs.Common.{◌+◌, drop, inl}
use Rattle.app_admin.proofs.Standing.{begin, bad_row, go_on, rows_at}
use Rattle.app_admin.proofs.making.late_client.Goals as goal

pub loop-row-init : goal.loop-row-init
loop-row-init c = begin c.args.rows.now c.args.lines.now

pub returns-then-row-most : goal.returns-then-row-most
returns-then-row-most c =
    let rows = c.args.rows.now in
    let i = c.loop-row.row-index in
    let row = c.row-item.result in
    bad_row rows (drop (i + 1) rows) (drop i rows) c.args.lines.now c.loop-row.left.now c.in_ok-line.more.now row c.in_ok-line.line.now _ c.loop-row.invariant
    (rows_at rows i row c.loop-row-test.true c.row-item.is) c.in_ok-line.ensures.cases.0 (inl (c.most_client-most.ensures, c.if-row-most.true))

pub loop-row-preserved : goal.loop-row-preserved
loop-row-preserved c =
    let rows = c.args.rows.now in
    let i = c.loop-row.row-index in
    let row = c.row-item.result in
    go_on rows (drop (i + 1) rows) (drop i rows) c.args.lines.now c.loop-row.left.now c.in_ok-line.more.now row c.in_ok-line.line.now c.loop-row.invariant
    (rows_at rows i row c.loop-row-test.true c.row-item.is) c.in_ok-line.ensures.cases.0
