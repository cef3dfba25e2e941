-- The text of a tree: a line for each object and for each of its properties, two blanks deeper at each level.
use Rattle.std.specs.Prelude.{ℕ, suc, List, [], ◌∷◌, ◌++◌, codes, Option, None, Some}
use Rattle.std.specs.List.{repeat, flat_map}
use Rattle.canvas_codec.specs.Text.{json_text}
use Rattle.canvas_model.specs.Value.{Value}
use Rattle.canvas_model.specs.Document.{Pos, Name}
use Rattle.canvas_model.specs.Text.{id_text, kind_word}
use Rattle.canvas_tree.specs.Shapes.{Label, Forest, none, tree, Branch}

-- two blanks, n times
abbrev pub blanks : ℕ → List ℕ
blanks n = repeat n (codes "  ")

-- a blank and the position, where there is one
abbrev pub pos_text : Option Pos → List ℕ
pos_text None = []
pos_text (Some pos) = codes " " ++ pos

-- an object: its id, its kind, and its position unless it has none
abbrev pub head_text : Label → List ℕ
head_text l = id_text l.id ++ codes " " ++ kind_word l.kind ++ pos_text l.pos ++ 10 ∷ []

-- the line of an object
abbrev pub head_line : ℕ → Label → List ℕ
head_line n l = blanks n ++ head_text l

-- the line of a property: a full stop and its name, a blank, and the compact JSON of its value
abbrev pub prop_line : ℕ → Name × Value → List ℕ
prop_line n p = blanks n ++ codes "." ++ p.0 ++ codes " " ++ json_text p.1 ++ 10 ∷ []

-- the line of an object, and those of its properties one level deeper
unfoldable pub label_text : ℕ → Label → List ℕ
label_text n l = head_line n l ++ flat_map (prop_line (suc n)) l.props

-- the texts of trees side by side at one level, what is below them one level deeper
abbrev pub forest_text : Forest → ℕ → List ℕ
forest_text none n = []
forest_text (tree l k r) n = label_text n l ++ forest_text k (suc n) ++ forest_text r n

-- the text of a tree at this level
abbrev pub tree_text : Branch → ℕ → List ℕ
tree_text t n = label_text n t.label ++ forest_text t.below (suc n)
