-- What is shown of a folder.
use Rattle.std.specs.Prelude.{ℕ, List, Option}
use Rattle.std.specs.FinMap as map
use Rattle.std.specs.Io.KnownBytes.{Appends}
use Rattle.canvas_model.specs.Document.{Doc}
use Rattle.canvas_shelf.specs.Disk.{Segment, seen}
use Rattle.canvas_journal.specs.Meaning.{Versioned}
use Rattle.canvas_journal.specs.Found.{Finds, IsState}
use Rattle.canvas_lines.specs.Reports.{IsReportText}
use Rattle.app_admin.specs.Texts.{rows_text}
use Rattle.app_admin.specs.declared.writing_rows.Layout.{Layout}

-- the rows of some document, laid out so, were written
abbrev pub WritesRows : Layout → Option (List ℕ) → Option (List ℕ) → Type 0
WritesRows layout before after = (doc : Doc) × Appends before after (rows_text layout (map.entries doc))

-- the rows of the document that recovery finds on the disk were written
abbrev pub WritesRowsOf : List Segment → Layout → Option (List ℕ) → Option (List ℕ) → Type 0
WritesRowsOf disk layout before after = (s : Versioned) × Finds (seen disk) (IsState s) × Appends before after (rows_text layout (map.entries s.0.doc))

-- the version and the tree of the document that recovery finds on the disk were written
abbrev pub WritesTreeOf : List Segment → Option (List ℕ) → Option (List ℕ) → Type 0
WritesTreeOf disk before after =
    (s : Versioned) × (text : List ℕ) × Finds (seen disk) (IsState s) × IsReportText s.1 s.0.doc text × Appends before after text
