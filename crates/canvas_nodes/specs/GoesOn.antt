-- How a client stands after it has spoken with a server, whatever that answered.
use Rattle.std.specs.Prelude.{◌≡◌, ◌≤◌, ℕ, List, drop, Some}
use Rattle.canvas_model.specs.Change.{Change}
use Rattle.canvas_model.specs.Client.{Client, last_number}

-- the edits are those of the whole but for some of the first
abbrev pub IsRest : List Change → List Change → Type 0
IsRest rest whole = (n : ℕ) × (rest ≡ drop n whole)

-- The client has gone on: an id that it had is its id still, the counter of its last creation and the number of its last edit are what
-- they were, its version hasn't fallen, and the edits that wait are a rest of those that waited.
pub record GoesOn (old new : Client) : Type 0 where
  pub same_id : (c : ℕ) → old.id ≡ Some c → new.id ≡ Some c
  pub same_counter : new.counter ≡ old.counter
  pub same_last : last_number new ≡ last_number old
  pub not_before : old.version ≤ new.version
  pub rest : IsRest new.waiting old.waiting
