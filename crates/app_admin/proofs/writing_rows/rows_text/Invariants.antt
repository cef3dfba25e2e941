use Rattle.std.proofs.Common.{◌≡◌, ◌++◌}
use Rattle.std.specs.FinMap as map
use Rattle.app_admin.specs.Texts.{end_of_rows, joined_rows, rows_text}
use Rattle.app_admin.proofs.writing_rows.rows_text.Given as goal

-- the text, and what is still to come
abbrev pub invariant-loop-row : goal.invariant-loop-row
invariant-loop-row l = l.text.items ++ (joined_rows l.layout l.later l.row-iterator ++ end_of_rows l.layout) ≡ rows_text l.layout (map.entries l.doc)
