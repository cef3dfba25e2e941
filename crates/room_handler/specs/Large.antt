-- Which messages are too large.
use Rattle.std.specs.Prelude.{ℕ, ◌<◌, ◌≤◌, Some, length}
use Rattle.canvas_model.specs.Change.{Change, Set}
use Rattle.canvas_model.specs.Messages.{Message}
use Rattle.canvas_model.specs.Messages as messages
use Rattle.canvas_model.specs.Value.{text, list}
use Rattle.canvas_wire.specs.Text.{message_text}

-- an edit whose text has more bytes than the limit
abbrev pub IsTooLarge : ℕ → Message → Type 0
IsTooLarge limit (messages.Edit client seq change) = limit < length (message_text (messages.Edit client seq change))
IsTooLarge limit _ = ⊥

-- the change sets no list, and a text of at most so many bytes, if it sets one
abbrev pub SetsAtMost : Change → ℕ → Type 0
SetsAtMost (Set id name (Some (text s))) n = length s ≤ n
SetsAtMost (Set id name (Some (list vs))) n = ⊥
SetsAtMost _ n = Unit {0}
