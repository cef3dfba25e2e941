use Rattle.std.proofs.Common.{rules}
use Rattle.net_http.proofs.Paths.{cut_at, no_cut}
use Rattle.net_http.proofs.routes.path_of.Goals as goal

pub returns-in-Some : goal.returns-in-Some
returns-in-Some c = search (rules, cut_at)

pub returns-in-None : goal.returns-in-None
returns-in-None c = search (rules, no_cut)
