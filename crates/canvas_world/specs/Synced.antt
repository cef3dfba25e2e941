-- What was synced stays.
use Rattle.std.specs.Prelude.{◌≡◌, ◌≤◌, List, take}
use Rattle.canvas_model.specs.World.{World, Event, Run, empty}

-- what was synced stands: the entries are the same, and no fewer are synced
abbrev pub KeepsSynced : World → World → Type 0
KeepsSynced old new = (take old.synced new.log ≡ take old.synced old.log) × (old.synced ≤ new.synced)

-- whatever was synced at any time of a run that leads here stands here
abbrev pub KeepsAllSynced : World → Type 0
KeepsAllSynced w = (u : World) (before after : List Event) → Run empty before u → Run u after w → KeepsSynced u w
