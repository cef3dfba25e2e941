use Rattle.std.proofs.lemmas.Result.{err_from_is_err_and}
use Rattle.canvas_daemon.proofs.Faulty.{link_fault}
use Rattle.canvas_daemon.proofs.node.LinkedClient.joined.Goals as goal

pub returns-in_err-join-clause-faults : goal.returns-in_err-join-clause-faults
returns-in_err-join-clause-faults g c =
    let p = err_from_is_err_and c.from_residual-in_err-join.result c.from_residual-in_err-join.ensures.1 in
    rw (p.1, p.2) (link_fault _)
