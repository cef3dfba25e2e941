-- By which hosts a server that is asked for may be asked, and whose pages may connect.
use Rattle.std.specs.Prelude.{string_bytes}
use Rattle.std.specs.List.{All}
use Rattle.net_http.specs.Hosts.{IsHost}
use Rattle.net_http.specs.Origins.{IsOrigin}
use Rattle.app_args.specs.declared.asked.Invocation.{Invocation}
use Rattle.app_args.specs.declared.asked.Invocation.TheVariants.{Serve, Show, Import, Restore, Move, Check, Log, Kick, Edit}
use Rattle.app_args.specs.declared.asked.Serving.{Serving}

-- each host and each origin that it names is one as browsers send it
abbrev pub NamesOrigins : Serving → Type 0
NamesOrigins serving = All (λ text. IsHost (string_bytes text)) serving.hosts.items × All (λ text. IsOrigin (string_bytes text)) serving.origins.items

-- so it is where a server is asked for
abbrev pub AsksForOrigins : Invocation → Type 0
AsksForOrigins (Serve options) = NamesOrigins options.serving
AsksForOrigins (Show place layout) = Unit {0}
AsksForOrigins (Import place) = Unit {0}
AsksForOrigins (Restore backup dir accept_loss) = Unit {0}
AsksForOrigins (Move dir address is_back) = Unit {0}
AsksForOrigins (Check place) = Unit {0}
AsksForOrigins (Log place) = Unit {0}
AsksForOrigins (Kick file numbers) = Unit {0}
AsksForOrigins (Edit port) = Unit {0}
