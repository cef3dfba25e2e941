-- Nodes that agree show one tree.
use Rattle.std.proofs.Common.{subst}
use Rattle.canvas_model.specs.World.{World}
use Rattle.canvas_model.specs.Laws.{NodesAgree}
use Rattle.canvas_tree.specs.Trees.{IsTreeOf}
use Rattle.canvas_tree.specs.Laws.{NoneHasTwo}
use Rattle.canvas_world.specs.Trees.{NodesShowOneTree}

-- two documents that are equal have no two trees
pub agreed_trees : NoneHasTwo → (w : World) → NodesAgree w → NodesShowOneTree w
agreed_trees one w agree k j n m h t u first second =
    one m.client.view t u
    (subst (λ d. IsTreeOf d t) (agree k j n m h.first h.second h.version h.nothing_left h.nothing_left_of_second) first)
    second
