-- What a board tells a client that asks.
use Rattle.std.specs.Prelude.{ℕ, ◌+◌, List, [], ◌∷◌, Option, Some, None}
use Rattle.canvas_model.specs.State.{done}
use Rattle.canvas_model.specs.Log.{Entry}
use Rattle.canvas_model.specs.Messages.{Message}
use Rattle.canvas_model.specs.Messages as messages
use Rattle.canvas_server.specs.Served.{Served, tail_of}

-- the entries, told in their order, the first with the version after this one
abbrev pub tells : ℕ → List Entry → List Message
tells from [] = []
tells from (e ∷ es) = messages.Entry (from + 1) e ∷ tells (from + 1) es

-- the board's copy for a client
abbrev pub copies : Served → ℕ → Message
copies b client = messages.Copy b.version (done b.state client) b.state.doc

-- these entries are told, or, where there are none, the board's copy
abbrev pub tells_or_copies : Served → ℕ → ℕ → Option (List Entry) → List Message
tells_or_copies b client from None = copies b client ∷ []
tells_or_copies b client from (Some es) = tells from es

-- what a board tells a client that has this version: at most 64 of the entries after it, or a copy where it is below the floor
abbrev pub news_of : Served → ℕ → ℕ → List Message
news_of b client from = tells_or_copies b client from (tail_of b from 64)
