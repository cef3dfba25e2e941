use Rattle.std.proofs.Common.{◌++◌, [], ◌∷◌}
use Rattle.canvas_lines.specs.Lines.{lines_of}
use Rattle.app_admin.proofs.Reading.{count_on, line_on, row_on, row_off}
use Rattle.app_admin.proofs.reading_rows.read_rows.Goals as goal

pub loop-line-preserved-in-Continue-1 : goal.loop-line-preserved-in-Continue-1
loop-line-preserved-in-Continue-1 c =
    let line = c.in-Some.line.now in
    let text = c.in-Some-row_part.text.now in
    let before = c.loop-line.invariant in
    let added = c.in_ok-add_row.ensures.ok in (
      before.0 ++ line ∷ [],
      row_on before.0 line text c.loop-line.read.rows.items _ added.0 before.1 c.in-Some-row_part.ensures added.1 added.2,
      line_on before.0 (lines_of c.loop-line.rest.now) (lines_of c.in-Some.more.now) (lines_of c.args.input.now) line c.in-Some.ensures.some before.2,
      λ few. count_on c.loop-line.number c.saturating_add-number.result before.0 line c.saturating_add-number.ensures before.3 few,
    )

pub loop-line-preserved : goal.loop-line-preserved
loop-line-preserved c =
    let line = c.in-Some.line.now in
    let before = c.loop-line.invariant in (
      before.0 ++ line ∷ [],
      row_off before.0 line c.loop-line.read.rows.items before.1 c.in_default-row_part.ensures,
      line_on before.0 (lines_of c.loop-line.rest.now) (lines_of c.in-Some.more.now) (lines_of c.args.input.now) line c.in-Some.ensures.some before.2,
      λ few. count_on c.loop-line.number c.saturating_add-number.result before.0 line c.saturating_add-number.ensures before.3 few,
    )
