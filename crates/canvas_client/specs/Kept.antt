-- What holds of every client.
use Rattle.std.specs.Prelude.{◌≡◌, ◌≤◌, false, [], None}
use Rattle.std.specs.List.{list_any}
use Rattle.canvas_model.specs.Ids.{root}
use Rattle.canvas_model.specs.Log.{last_version}
use Rattle.canvas_model.specs.View.{creates_it}
use Rattle.canvas_model.specs.Client.{Client, last_number}
use Rattle.canvas_model.specs.Standing.{OwnsWaiting}

-- what holds of every client
pub record IsKept (client : Client) : Type 0 where
  -- what its waiting edits create is its own, each object once
  pub own : OwnsWaiting client
  -- they don't create the root
  pub no_root : list_any (creates_it root) client.waiting ≡ false
  -- without an id nothing waits
  pub idle : client.id ≡ None → client.waiting ≡ []
  -- the number of its last edit is at most 2^62
  pub few : last_number client ≤ last_version
