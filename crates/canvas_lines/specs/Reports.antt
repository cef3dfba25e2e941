-- The text by which a document is shown.
use Rattle.std.specs.Prelude.{◌≡◌, ℕ, List, ◌∷◌, ◌++◌, codes, Option}
use Rattle.std.specs.Fmt.{decimal}
use Rattle.std.specs.Io.KnownBytes.{Appends}
use Rattle.canvas_model.specs.Document.{Doc}
use Rattle.canvas_tree.specs.Shapes.{Branch}
use Rattle.canvas_tree.specs.Trees.{IsTreeOf}
use Rattle.canvas_tree.specs.Texts.{tree_text}

-- the line of the version, and the text of the document's tree at level 0
abbrev pub IsReportText : ℕ → Doc → List ℕ → Type 0
IsReportText version doc text =
    (t : Branch) × IsTreeOf doc t × (text ≡ codes "version " ++ decimal version ++ 10 ∷ tree_text t 0)

-- the text of some version of some document
abbrev pub IsReport : List ℕ → Type 0
IsReport text = (version : ℕ) × (doc : Doc) × IsReportText version doc text

-- the text of some version of some document was written
abbrev pub WritesReport : Option (List ℕ) → Option (List ℕ) → Type 0
WritesReport before after = (text : List ℕ) × IsReport text × Appends before after text
