-- What a script asks for.
use Rattle.std.specs.Prelude.{ℕ}
use Rattle.canvas_model.specs.World as world
use Rattle.canvas_script.specs.declared.script.Item as declared
use Rattle.canvas_script.specs.declared.script.Item.TheVariants as item

-- a node is added; an event happens; the server's block is shown, or that of node k
pub data Item : Type 0 where
  Enters : Item
  Happens : world.Event → Item
  ShowsServer : Item
  ShowsNode : ℕ → Item

-- what contracts see of an item
abbrev pub seen_item : declared.Item → Item
seen_item item.Enters = Enters
seen_item (item.Happens event) = Happens event
seen_item item.ShowsServer = ShowsServer
seen_item (item.ShowsNode k) = ShowsNode k
