use Rattle.std.proofs.lemmas.Result.{err_from_is_err_and, on_ok_weaker}
use Rattle.canvas_daemon.proofs.Faulty.{of_both}
use Rattle.canvas_daemon.proofs.Playing.{left_at_end, left_by_cut, left_unshown, played_to_end}
use Rattle.canvas_daemon.proofs.editing.edit.Goals as goal

pub returns-in_err-play-clause-left : goal.returns-in_err-play-clause-left
returns-in_err-play-clause-left g c =
    let p = err_from_is_err_and c.from_residual-in_err-play.result c.from_residual-in_err-play.ensures.1 in
    rw (p.1, p.2) (left_by_cut _ _ _ _ _ _ c.in_ok-node.ensures.joined c.in_err-play.ensures.cut)

pub returns-in_err-exchange_and_tell-clause-left : goal.returns-in_err-exchange_and_tell-clause-left
returns-in_err-exchange_and_tell-clause-left g c =
    let p = err_from_is_err_and c.from_residual-in_err-exchange_and_tell.result c.from_residual-in_err-exchange_and_tell.ensures.1 in
    rw (p.1, p.2)
    (left_at_end _ _ _ _ _ _ _ _ c.in_ok-node.ensures.joined c.in_ok-play.ensures.played c.in_err-exchange_and_tell.ensures.faults c.in_err-exchange_and_tell.ensures.unwritten)

pub returns-clause-played : goal.returns-clause-played
returns-clause-played g c =
    on_ok_weaker c.show.result
    (λ shown. played_to_end _ _ _ _ _ _ _ _ _ c.in_ok-node.ensures.joined c.in_ok-play.ensures.played c.exchange_and_tell.ensures.goes_on c.in_ok-exchange_and_tell.ensures.told shown)
    c.show.ensures.shown

pub returns-clause-left : goal.returns-clause-left
returns-clause-left g c =
    of_both c.show.result _ _ _
    (λ fault is same. left_unshown _ _ _ _ _ _ _ _ _ fault c.in_ok-node.ensures.joined c.in_ok-play.ensures.played c.exchange_and_tell.ensures.goes_on c.in_ok-exchange_and_tell.ensures.told is same)
    c.show.ensures.faults
    c.show.ensures.unwritten
