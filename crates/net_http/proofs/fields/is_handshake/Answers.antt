use Rattle.std.proofs.Common.{rules}
use Rattle.net_http.proofs.FieldLemmas.{handshake_at}
use Rattle.net_http.proofs.fields.is_handshake.Goals as goal

pub returns-then-asks_upgrade : goal.returns-then-asks_upgrade
returns-then-asks_upgrade c = search (rules, handshake_at)
