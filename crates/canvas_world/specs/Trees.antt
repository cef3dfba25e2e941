-- What two nodes show, as trees.
use Rattle.std.specs.Prelude.{◌≡◌, ℕ}
use Rattle.canvas_model.specs.World.{Node, World}
use Rattle.canvas_tree.specs.Shapes.{Branch}
use Rattle.canvas_tree.specs.Trees.{IsTreeOf}
use Rattle.canvas_tree.specs.Headline.{AreSettled}

-- of two nodes at one version with nothing unacknowledged, any tree of what one shows and any tree of what the other shows are one
abbrev pub NodesShowOneTree : World → Type 0
NodesShowOneTree w = (k j : ℕ) (n m : Node) → AreSettled w k j n m → (t u : Branch) → IsTreeOf n.client.view t → IsTreeOf m.client.view u → t ≡ u
