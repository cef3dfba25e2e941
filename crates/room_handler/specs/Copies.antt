-- A copy of a document that many clients are sent.
use Rattle.std.specs.Prelude.{◌≡◌, ℕ, List, [], ◌∷◌, ◌++◌}
use Rattle.canvas_model.specs.Document.{Doc}
use Rattle.canvas_model.specs.declared.Counts.{Counts}
use Rattle.canvas_server.specs.Served.{Served}
use Rattle.canvas_wire.specs.Text.{EncodesRows}

-- the end of each copy of a document: the text of its rows, and a bracket
abbrev pub EndsCopies : List ℕ → Doc → Type 0
EndsCopies bytes doc = (rows : List ℕ) × EncodesRows rows doc × (bytes ≡ rows ++ 93 ∷ [])

-- What is kept of a board, so that each client can be sent the copy that it has for it: all but its document, of which the end of each copy is kept.
pub record IsKeptForCopies (b : Served) (version floor : ℕ) (clients : List Counts) (end : List ℕ) : Type 0 where
  pub at_version : version ≡ b.version
  pub from_floor : floor ≡ b.floor
  pub of_clients : clients ≡ b.state.clients
  pub of_rows : EndsCopies end b.state.doc
