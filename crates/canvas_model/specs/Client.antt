-- A client: what it shows, and which of its edits still wait for the server.
use Rattle.std.specs.Prelude.{◌≡◌, ℕ, ◌+◌, List, [], length, Option, None}
use Rattle.canvas_model.specs.Document.{Doc, blank}
use Rattle.canvas_model.specs.Change.{Change}

-- its id, the counter of its last creation, its version, the number of its last acknowledged edit, the edits after that one, and its view
pub record Client : Type 0 where
  pub id : Option ℕ
  pub counter : ℕ
  pub version : ℕ
  pub acknowledged : ℕ
  pub waiting : List Change
  pub view : Doc

-- no id yet, and the root alone
abbrev pub new_client : Client
new_client = record { id = None; counter = 0; version = 0; acknowledged = 0; waiting = []; view = blank }

-- the number of its last edit
abbrev pub last_number : Client → ℕ
last_number client = client.acknowledged + length client.waiting

-- the answer is the wanted one, and the new thing is what was made
abbrev pub Yields : {A X : Type 0} → A → X → A → X → Type 0
Yields wanted made answer new = (answer ≡ wanted) × (new ≡ made)
