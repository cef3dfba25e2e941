use Rattle.std.specs.Prelude.{string_bytes}
use Rattle.std.specs.List.{All}
use Rattle.net_http.specs.Origins.{IsOrigin}
use Rattle.app_args.proofs.args.origins_of.Given as goal

-- what was taken so far are origins
abbrev pub invariant-loop-text : goal.invariant-loop-text
invariant-loop-text l = All (λ text. IsOrigin (string_bytes text)) l.origins.items
