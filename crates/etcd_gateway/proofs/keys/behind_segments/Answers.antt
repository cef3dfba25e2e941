use Rattle.std.proofs.Common.{codes}
use Rattle.etcd_gateway.proofs.KeyLemmas.{behind, front, no_front, unbehind, unnamed}
use Rattle.etcd_gateway.proofs.keys.behind_segments.Goals as goal

pub returns-in_err-behind-clause-none : goal.returns-in_err-behind-clause-none
returns-in_err-behind-clause-none c =
    let at = front c.args.key.now (codes "lugcurrant/") c.in_ok-named.named.now c.in_ok-named.ensures.cases.0 c.in_ok-named.ensures.cases.1 in
    rw c.from_residual-in_err-behind.ensures (λ rest e.
    no_front c.in_ok-named.named.now c.args.name.now c.in_err-behind.ensures.cases _ (unbehind c.args.key.now c.args.name.now c.in_ok-named.named.now rest at e))

pub returns-in_err-rest-clause-none : goal.returns-in_err-rest-clause-none
returns-in_err-rest-clause-none c =
    let at = front c.args.key.now (codes "lugcurrant/") c.in_ok-named.named.now c.in_ok-named.ensures.cases.0 c.in_ok-named.ensures.cases.1 in
    let named = front c.in_ok-named.named.now c.args.name.now c.in_ok-behind.behind.now c.in_ok-behind.ensures.cases.0 c.in_ok-behind.ensures.cases.1 in
    rw c.from_residual-in_err-rest.ensures (λ rest e.
    no_front c.in_ok-behind.behind.now (codes "/segment/") c.in_err-rest.ensures.cases _
    (unnamed c.args.name.now c.in_ok-named.named.now c.in_ok-behind.behind.now rest named (unbehind c.args.key.now c.args.name.now c.in_ok-named.named.now rest at e)))

pub returns-clause-some : goal.returns-clause-some
returns-clause-some c =
    let at = front c.args.key.now (codes "lugcurrant/") c.in_ok-named.named.now c.in_ok-named.ensures.cases.0 c.in_ok-named.ensures.cases.1 in
    let named = front c.in_ok-named.named.now c.args.name.now c.in_ok-behind.behind.now c.in_ok-behind.ensures.cases.0 c.in_ok-behind.ensures.cases.1 in
    let last = front c.in_ok-behind.behind.now (codes "/segment/") c.in_ok-rest.rest.now c.in_ok-rest.ensures.cases.0 c.in_ok-rest.ensures.cases.1 in
    behind c.args.key.now c.args.name.now c.in_ok-named.named.now c.in_ok-behind.behind.now c.in_ok-rest.rest.now at named last
