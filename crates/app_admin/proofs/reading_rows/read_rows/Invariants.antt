use Rattle.std.proofs.Common.{◌≡◌, ◌++◌, List, ℕ, length}
use Rattle.std.specs.Prelude.{◌^◌, ◌<◌}
use Rattle.canvas_lines.specs.Lines.{lines_of}
use Rattle.canvas_journal.specs.Found.{AreRowTexts}
use Rattle.app_admin.specs.Imports.{row_texts}
use Rattle.app_admin.proofs.reading_rows.read_rows.Given as goal

-- the lines so far, whose texts are the rows, and those that are left
abbrev pub invariant-loop-line : goal.invariant-loop-line
invariant-loop-line l =
    (done : List (List ℕ)) × AreRowTexts (row_texts done) l.read.rows.items × (done ++ lines_of l.rest ≡ lines_of l.input) × (length done < 2 ^ 64 → l.number ≡ length done)

abbrev pub decreases-loop-line : goal.decreases-loop-line
decreases-loop-line l = length l.rest
