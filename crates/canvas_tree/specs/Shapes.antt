-- Trees as plain data.
use Rattle.std.specs.Prelude.{◌≡◌, ℕ, suc, ◌+◌, ◌++◌, List, [], ◌∷◌, Option}
use Rattle.canvas_model.specs.declared.ObjId.{ObjId}
use Rattle.canvas_model.specs.declared.Kind.{Kind}
use Rattle.canvas_model.specs.Value.{Value}
use Rattle.canvas_model.specs.Document.{Pos, Name}

-- what a tree says of one object, its properties as a list
pub record Label : Type 0 where
  pub id : ObjId
  pub kind : Kind
  pub pos : Option Pos
  pub props : List (Name × Value)

-- the two are one object, of one kind and at one position
abbrev pub HaveOneHead : Label → Label → Type 0
HaveOneHead l m = (l.id ≡ m.id) × (l.kind ≡ m.kind) × (l.pos ≡ m.pos)

-- trees side by side: what stands at the top of the first one, the trees below that, and the trees after the first
pub data Forest : Type 0 where
  none : Forest
  tree : Label → Forest → Forest → Forest

-- a tree: what stands at its top, and the trees below that
pub record Branch : Type 0 where
  pub label : Label
  pub below : Forest

-- these trees side by side
abbrev pub forest_of : List Branch → Forest
forest_of [] = none
forest_of (b ∷ bs) = tree b.label b.below (forest_of bs)

-- a tree by its parts
abbrev pub branch : ObjId → Kind → Option Pos → List (Name × Value) → List Branch → Branch
branch id kind pos props children = record { label = record { id = id; kind = kind; pos = pos; props = props }; below = forest_of children }

-- how many objects stand in the trees
abbrev pub forest_size : Forest → ℕ
forest_size none = 0
forest_size (tree l k r) = suc (forest_size k + forest_size r)

-- how many objects stand in the tree
abbrev pub branch_size : Branch → ℕ
branch_size t = suc (forest_size t.below)

-- the objects at the tops of the trees
abbrev pub tops : Forest → List ObjId
tops none = []
tops (tree l k r) = l.id ∷ tops r

-- the objects of the trees, each before those below it
abbrev pub forest_ids : Forest → List ObjId
forest_ids none = []
forest_ids (tree l k r) = l.id ∷ (forest_ids k ++ forest_ids r)

-- the objects of the tree, each before those below it
abbrev pub branch_ids : Branch → List ObjId
branch_ids t = t.label.id ∷ forest_ids t.below
