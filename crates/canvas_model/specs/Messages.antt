-- Messages between the nodes and the server.
use Rattle.std.specs.Prelude.{ℕ}
use Rattle.canvas_model.specs.Document.{Doc}
use Rattle.canvas_model.specs.Change.{Change}
use Rattle.canvas_model.specs.Log as log

-- what a node and the server send each other
pub data Message : Type 0 where
  -- a node asks for an id
  Join : Message
  -- the server gives an id
  Welcome : ℕ → Message
  -- a client's edit: its id, the edit's number, and the change
  Edit : ℕ → ℕ → Change → Message
  -- a client, at a version, asks for what came after
  Ask : ℕ → ℕ → Message
  -- the entry of this version
  Entry : ℕ → log.Entry → Message
  -- a version, the number of the client's last edit judged by then, and the document there
  Copy : ℕ → ℕ → Doc → Message
  -- there is no more
  Idle : Message
  -- what was asked is refused, with a number that says why
  No : ℕ → Message
