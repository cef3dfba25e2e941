-- Blocks of a report.
use Rattle.std.specs.Prelude.{◌≡◌, ℕ, List, ◌∷◌, ◌++◌}
use Rattle.canvas_model.specs.Document.{Doc}
use Rattle.canvas_tree.specs.Shapes.{Branch}
use Rattle.canvas_tree.specs.Trees.{IsTreeOf}
use Rattle.canvas_tree.specs.Texts.{tree_text}

-- the head, a line feed and the text of the document's tree at level 1
abbrev pub IsBlockText : List ℕ → Doc → List ℕ → Type 0
IsBlockText head d text = (t : Branch) × IsTreeOf d t × (text ≡ head ++ 10 ∷ tree_text t 1)

-- a block was added
abbrev pub IsBlock : List ℕ → Doc → List ℕ → List ℕ → Type 0
IsBlock head d before after = (text : List ℕ) × IsBlockText head d text × (after ≡ before ++ text)
