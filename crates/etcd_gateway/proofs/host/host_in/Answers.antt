use Rattle.std.proofs.Common.{codes}
use Rattle.etcd_gateway.proofs.KeyLemmas.{front}
use Rattle.etcd_gateway.proofs.HostLemmas.{stands}
use Rattle.etcd_gateway.proofs.host.host_in.Goals as goal

pub returns : goal.returns
returns c =
    let trimmed = c.trim_ascii-text.ensures.value in
    let is = front c.trim_ascii-text.result.now (codes "http://") c.in_ok-rest.rest.now c.in_ok-rest.ensures.cases.0 c.in_ok-rest.ensures.cases.1 in
    (trimmed.0, c.in_ok-rest.rest.now, stands c.args.url.now c.trim_ascii-text.result.now c.in_ok-rest.rest.now trimmed.0 is trimmed.1 trimmed.2 trimmed.4, c.without_slash.ensures)
