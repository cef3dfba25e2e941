-- The tree of a client as text.
use Rattle.std.specs.Prelude.{◌≡◌, ℕ, ◌+◌, ◌++◌, List, map, reverse}
use Rattle.canvas_model.specs.declared.ObjId.{ObjId}
use Rattle.canvas_model.specs.Children.{AreChildren}
use Rattle.canvas_model.specs.Client.{Client}
use Rattle.canvas_model.specs.Document.{Doc}
use Rattle.canvas_tree.specs.Shapes.{Branch}
use Rattle.canvas_tree.specs.Trees.{IsTreeOf}
use Rattle.canvas_tree.specs.Texts.{tree_text}
use Rattle.canvas_embed.specs.declared.trees.Pending.{Pending}

-- the bytes are the text of the one tree of the document
pub record IsTextOfTree (d : Doc) (bytes : List ℕ) : Type 0 where
  pub tree : Branch
  pub shown : IsTreeOf d tree
  pub text : bytes ≡ tree_text tree 0

-- the same of what the client shows
abbrev pub IsTreeText : Client → List ℕ → Type 0
IsTreeText client = IsTextOfTree client.view

-- an object at this level, as one whose lines are still to be written
abbrev pub pending_at : ℕ → ObjId → Pending
pending_at level id = record { id = id; level = level }

-- the children of an object are put behind these, a level deeper, the last one first
pub record ListsBelow (d : Doc) (at : Pending) (old new : List Pending) : Type 0 where
  pub ids : List ObjId
  pub children : AreChildren d at.id ids
  pub behind : new ≡ old ++ reverse (map (pending_at (at.level + 1)) ids)
