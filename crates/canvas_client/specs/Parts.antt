-- Clients by their parts.
use Rattle.std.specs.Prelude.{◌≡◌, ℕ, ◌≤◌, false}
use Rattle.std.specs.BTreeSet.{BTreeSet, contains}
use Rattle.canvas_model.specs.declared.ObjId.{ObjId}
use Rattle.canvas_model.specs.Ids.{id_cmp}
use Rattle.canvas_model.specs.Change.{Change, Create}
use Rattle.canvas_model.specs.Client.{Client}
use Rattle.canvas_client.specs.declared.parts.ClientParts.{ClientParts}

-- the client of these parts
abbrev pub seen_parts : {A : Type 0} → ClientParts A → Client
seen_parts p = record { id = p.id; counter = p.counter; version = p.version; acknowledged = p.acknowledged; waiting = p.waiting.items; view = p.view }

-- what the change creates has the id c and a counter that was given, and isn't among the noted objects
abbrev pub CreatesNew : ℕ → ℕ → BTreeSet ObjId → Change → Type 0
CreatesNew c counter noted (Create id kind place) = (contains id_cmp noted id ≡ false) × (id.client ≡ c) × (id.counter ≤ counter)
CreatesNew c counter noted change = Unit {0}
