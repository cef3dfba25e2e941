use Rattle.rally.proofs.Rallies.{equal_to_first}
use Rattle.rally.proofs.rallying.compared.Goals as goal

pub returns-in-Some : goal.returns-in-Some
returns-in-Some c = equal_to_first c.args.clients.now c.in-Some.first.now c.agree_with.result c.in-Some.ensures.value c.agree_with.ensures
