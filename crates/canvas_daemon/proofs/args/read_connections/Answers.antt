use Rattle.std.proofs.Common.{arith}
use Rattle.canvas_daemon.proofs.Numbers.{one_number}
use Rattle.canvas_daemon.proofs.args.read_connections.Goals as goal

pub returns-then-count-eq0-clause-none : goal.returns-then-count-eq0-clause-none
returns-then-count-eq0-clause-none c n spelled =
    let e = one_number c.args.word.now c.in_ok-count.count n (omega arith) (omega (arith, spelled.0.1)) c.in_ok-count.ensures.some spelled.1 in
    omega (arith, e, spelled.0.0)

pub returns-then-count-gt-MAX_CONNECTIONS-clause-none : goal.returns-then-count-gt-MAX_CONNECTIONS-clause-none
returns-then-count-gt-MAX_CONNECTIONS-clause-none c n spelled =
    let e = one_number c.args.word.now c.in_ok-count.count n (omega arith) (omega (arith, spelled.0.1)) c.in_ok-count.ensures.some spelled.1 in
    omega (arith, e, spelled.0.1)
