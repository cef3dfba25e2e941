use Rattle.std.proofs.Common.{take}
use Rattle.std.specs.Prelude.{All}
use Rattle.rally.specs.Rallied.{AgreeWith}
use Rattle.rally.proofs.rallying.agree_with.Given as goal

abbrev pub invariant-loop-client : goal.invariant-loop-client
invariant-loop-client l = All (AgreeWith l.first) (take l.client-index l.clients)
