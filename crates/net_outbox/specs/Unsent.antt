-- The bytes that wait to leave, as they are kept.
use Rattle.std.specs.Prelude.{◌≡◌, ℕ, ◌≤◌, List, [], ◌++◌, drop, length}
use Rattle.net_outbox.specs.declared.unsent.Unsent.TheInside.{Inside}

-- what is left of the first, then those that are shared, and then those behind these
abbrev pub unsent_bytes : Inside → List ℕ
unsent_bytes u = drop u.sent u.bytes.items ++ (u.shared ++ u.behind.items)

-- no more have left than there were, all that wait are counted, and where none are shared, none stand behind them
pub record IsUnsent (u : Inside) : Type 0 where
  pub within : u.sent ≤ length u.bytes.items
  pub counted : u.len ≡ length (unsent_bytes u)
  pub in_order : u.shared ≡ [] → u.behind.items ≡ []
