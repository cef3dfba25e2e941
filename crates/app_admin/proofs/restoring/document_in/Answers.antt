use Rattle.std.proofs.Common.{List, subst, sym}
use Rattle.std.proofs.lemmas.Result.{IfOk-weaker}
use Rattle.canvas_journal.specs.Found.{AreRowTexts}
use Rattle.canvas_journal.specs.Meaning.{Row}
use Rattle.canvas_lines.specs.Lines.{lines_of}
use Rattle.app_admin.specs.Imports.{row_texts}
use Rattle.app_admin.proofs.restoring.document_in.Goals as goal

pub returns : goal.returns
returns c =
    IfOk-weaker c.document_of.result _ _
    (λ state same. subst (λ (rows : List Row). AreRowTexts (row_texts (lines_of c.args.text.now)) rows) (sym same) c.in_ok-rows.ensures.rows)
    c.document_of.ensures.document
