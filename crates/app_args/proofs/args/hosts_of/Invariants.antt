use Rattle.std.specs.Prelude.{string_bytes}
use Rattle.std.specs.List.{All}
use Rattle.net_http.specs.Hosts.{IsHost}
use Rattle.app_args.proofs.args.hosts_of.Given as goal

-- what was taken so far are hosts
abbrev pub invariant-loop-text : goal.invariant-loop-text
invariant-loop-text l = All (λ text. IsHost (string_bytes text)) l.hosts.items
