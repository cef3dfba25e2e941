-- What is told of a folder that was made.
use Rattle.std.specs.Prelude.{ℕ, List, [], ◌∷◌, ◌++◌, length, codes, Option}
use Rattle.std.specs.Fmt.{decimal}
use Rattle.std.specs.FinMap as map
use Rattle.std.specs.Io.KnownBytes.{Appends}
use Rattle.canvas_journal.specs.Meaning.{Versioned}
use Rattle.app_admin.specs.Imports.{IsImported}

-- its version, and how many objects its document has
abbrev pub begun_line : Versioned → List ℕ
begun_line s = codes "version " ++ decimal s.1 ++ codes ", objects " ++ decimal (length (map.entries s.0.doc)) ++ 10 ∷ []

-- the line of some document was written
abbrev pub WritesBegun : Option (List ℕ) → Option (List ℕ) → Type 0
WritesBegun before after = (s : Versioned) × Appends before after (begun_line s)

-- the rows of a document were read, and its line was written
abbrev pub WritesImported : Option (List ℕ) → Option (List ℕ) → Option (List ℕ) → Option (List ℕ) → Type 0
WritesImported read left before after = (s : Versioned) × IsImported read left s × Appends before after (begun_line s)

-- the same, and this holds of the document
abbrev pub ImportsTo : (Versioned → Type 0) → Option (List ℕ) → Option (List ℕ) → Option (List ℕ) → Option (List ℕ) → Type 0
ImportsTo P read left before after = (s : Versioned) × IsImported read left s × P s × Appends before after (begun_line s)
