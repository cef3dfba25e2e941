use Rattle.std.proofs.Common.{codes, inr}
use Rattle.etcd_gateway.proofs.HostLemmas.{ends}
use Rattle.etcd_gateway.proofs.host.without_slash.Goals as goal

pub returns-in-Some : goal.returns-in-Some
returns-in-Some c = inr (ends c.args.text.now c.in-Some.rest.now (codes "/") c.in-Some.ensures.cases.0 c.in-Some.ensures.cases.1)
