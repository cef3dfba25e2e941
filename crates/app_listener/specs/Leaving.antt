-- What an answer has still to give.
use Rattle.std.specs.Prelude.{◌≡◌, ℕ, List, ◌++◌, drop}
use Rattle.app_listener.specs.declared.streams.Answer.{Answer}

-- the rest of its own bytes, and then those that it shares
abbrev pub rest_of : Answer → List ℕ
rest_of a = drop a.sent a.own.items ++ a.shared

-- a front of the rest has left, and nothing else has changed
abbrev pub Leaves : Answer → Answer → Type 0
Leaves old new = (front : List ℕ) × (rest_of old ≡ front ++ rest_of new)
