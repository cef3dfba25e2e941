-- What is written of rows, and read back.
use Rattle.std.specs.Prelude.{◌≡◌, List, map}
use Rattle.canvas_lines.specs.Lines.{lines_of}
use Rattle.canvas_wire.specs.Text.{row_text}
use Rattle.canvas_journal.specs.Found.{AreRowTexts}
use Rattle.canvas_journal.specs.Meaning.{Row}
use Rattle.app_admin.specs.declared.writing_rows.Layout.{Layout}
use Rattle.app_admin.specs.Imports.{row_texts}
use Rattle.app_admin.specs.Texts.{rows_text}

-- each row that is written has a line, of which its text is the part that is read
abbrev pub EachRowHasALine : Type 0
EachRowHasALine = (layout : Layout) (rows : List Row) → row_texts (lines_of (rows_text layout rows)) ≡ map row_text rows

-- what is read of what was written of rows is these rows, where the text of each is read as it
abbrev pub WrittenRowsComeBack : Type 0
WrittenRowsComeBack =
    (layout : Layout) (rows others : List Row) → AreRowTexts (map row_text rows) rows → AreRowTexts (row_texts (lines_of (rows_text layout rows))) others
    → others ≡ rows
