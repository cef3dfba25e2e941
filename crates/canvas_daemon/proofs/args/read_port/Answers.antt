use Rattle.std.proofs.Common.{arith}
use Rattle.canvas_daemon.proofs.Numbers.{one_number}
use Rattle.canvas_daemon.proofs.args.read_port.Goals as goal

pub returns-then-port-eq0-clause-none : goal.returns-then-port-eq0-clause-none
returns-then-port-eq0-clause-none c n spelled =
    let e = one_number c.args.word.now c.in_ok-port.port n (omega arith) (omega (arith, spelled.0.1)) c.in_ok-port.ensures.some spelled.1 in
    omega (arith, e, spelled.0.0)

pub returns-in-Err-clause-none : goal.returns-in-Err-clause-none
returns-in-Err-clause-none c n spelled =
    let e = one_number c.args.word.now c.in_ok-port.port n (omega arith) (omega (arith, spelled.0.1)) c.in_ok-port.ensures.some spelled.1 in
    c.in-Err.ensures (omega (arith, e, spelled.0.1))
