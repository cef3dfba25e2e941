use Rattle.app_admin.proofs.RowLines.{each_row_has_a_line, rows_come_back}
use Rattle.app_admin.proofs.laws.every_rows_text.Goals as goal

pub returns-clause-lines : goal.returns-clause-lines
returns-clause-lines c = each_row_has_a_line

pub returns-clause-back : goal.returns-clause-back
returns-clause-back c = rows_come_back
