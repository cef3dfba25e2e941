-- The headline: what holds after every list of events, whatever was lost, repeated, held back or started again.
use Rattle.std.specs.Prelude.{◌≡◌, ℕ, ◌≤◌, ◌<◌, List, [], Some}
use Rattle.canvas_model.specs.declared.ObjId.{ObjId}
use Rattle.canvas_model.specs.Document.{Doc}
use Rattle.canvas_model.specs.Children.{parent_of}
use Rattle.canvas_model.specs.Overlay.{over}
use Rattle.canvas_model.specs.Log.{at_version}
use Rattle.canvas_model.specs.World.{Node, World, state, node}
use Rattle.canvas_model.specs.Good.{unacknowledged}
use Rattle.canvas_model.specs.Laws.{IsLoggedOnce}
use Rattle.canvas_tree.specs.Shapes.{Branch}
use Rattle.canvas_tree.specs.Trees.{IsTreeOf}
use Rattle.canvas_tree.specs.Chains.{LeadTo}

-- nodes k and j are n and m; they are at one version, and nothing of theirs is unacknowledged
pub record AreSettled (w : World) (k j : ℕ) (n m : Node) : Type 0 where
  pub first : node w k ≡ Some n
  pub second : node w j ≡ Some m
  pub version : n.client.version ≡ m.client.version
  pub nothing_left : unacknowledged n ≡ []
  pub nothing_left_of_second : unacknowledged m ≡ []

-- one tree fits both documents, and no other fits either of them
pub record HaveOneTree (d e : Doc) : Type 0 where
  pub tree : Branch
  pub fits : IsTreeOf d tree
  pub fits_second : IsTreeOf e tree
  pub only : (t : Branch) → IsTreeOf d t → t ≡ tree
  pub only_of_second : (t : Branch) → IsTreeOf e t → t ≡ tree

-- The server and all nodes hold one document:
pub record HoldOneDocument (w : World) : Type 0 where
  -- each node shows the server's document at the node's version with its unacknowledged edits laid over it;
  pub views : (k : ℕ) (n : Node) → node w k ≡ Some n → n.client.view ≡ over (at_version w.log n.client.version).doc (unacknowledged n)
  -- what waits at a node is what isn't acknowledged;
  pub waiting : (k : ℕ) (n : Node) → node w k ≡ Some n → n.client.waiting ≡ unacknowledged n
  -- two nodes at one version with nothing unacknowledged hold equal documents,
  pub equal : (k j : ℕ) (n m : Node) → AreSettled w k j n m → n.client.view ≡ m.client.view
  -- and one tree fits both views;
  pub one_tree : (k j : ℕ) (n m : Node) → AreSettled w k j n m → HaveOneTree n.client.view m.client.view
  -- the server's parents never form a cycle: no chain of parents leads from an object's parent back to the object;
  pub no_cycle : (q p : ObjId) (chain : List ObjId) → parent_of (state w).doc q ≡ Some p → LeadTo (state w).doc p q chain → ⊥
  -- each acknowledged edit is in the log exactly once.
  pub once : (k i : ℕ) (n : Node) → node w k ≡ Some n → 0 < i → i ≤ n.client.acknowledged → IsLoggedOnce w n i
