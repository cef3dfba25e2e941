-- The tree of a document.
use Rattle.std.specs.Prelude.{◌≡◌, Option, Some}
use Rattle.std.specs.Option.{option_map}
use Rattle.std.specs.FinMap as map
use Rattle.canvas_model.specs.declared.ObjId.{ObjId}
use Rattle.canvas_model.specs.Ids.{root}
use Rattle.canvas_model.specs.Document.{Doc, Object}
use Rattle.canvas_model.specs.Children.{AreChildren}
use Rattle.canvas_tree.specs.Shapes.{Label, Forest, none, tree, Branch, tops}

-- what a tree says of the object that lives under this id: its kind, its position if it has a place, and its properties by name
abbrev pub label_of : ObjId → Object → Label
label_of id o = record { id = id; kind = o.kind; pos = option_map (λ p. p.pos) o.place; props = map.entries o.props }

-- the same of an object of the document, if it is live
abbrev pub label_in : Doc → ObjId → Option Label
label_in d q = option_map (label_of q) (map.get d q)

-- a live object as it is, and at the tops of what is below it exactly the live objects whose place names it, by position and then by id
pub record IsVertex (d : Doc) (l : Label) (below : Forest) : Type 0 where
  pub object : label_in d l.id ≡ Some l
  pub children : AreChildren d l.id (tops below)

-- the same of each object in the trees
abbrev pub AreVertices : Doc → Forest → Type 0
AreVertices d none = Unit {0}
AreVertices d (tree l k r) = IsVertex d l k × AreVertices d k × AreVertices d r

-- the tree at this object: the object, its children, their children, and so on
pub record IsTreeAt (d : Doc) (id : ObjId) (t : Branch) : Type 0 where
  pub at : t.label.id ≡ id
  pub top : IsVertex d t.label t.below
  pub below : AreVertices d t.below

-- the tree of the document: the one at the root
abbrev pub IsTreeOf : Doc → Branch → Type 0
IsTreeOf d t = IsTreeAt d root t
