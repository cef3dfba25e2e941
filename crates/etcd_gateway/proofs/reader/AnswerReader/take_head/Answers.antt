use Rattle.std.proofs.Common.{arith, ◌≡◌}
use Rattle.etcd_gateway.proofs.BodyLemmas.{head_came, said_some}
use Rattle.etcd_gateway.proofs.reader.AnswerReader.take_head.Goals as goal

pub returns-clause-read : goal.returns-clause-read
returns-clause-read c = λ past so_far.
    (let found = rw c.in-Some.is at c.in_ok-head.ensures.some in
    head_came c.args.self.now.stage c.in_ok-self.field-0 c.args.self.now.status c.args.self.now.body.items past c.args.bytes.now found.0 c.in-Some.head c.requires found.1 found.2
    c.in_ok-self.ensures so_far)

pub returns-clause-nothing : goal.returns-clause-nothing
returns-clause-nothing c = λ e.
    (let found = rw c.in-Some.is at c.in_ok-head.ensures.some in
    let nothing : c.in-Some.head.length ≡ 0 = cc in
    absurd (omega (arith, said_some found.0 c.in-Some.head found.2)))
