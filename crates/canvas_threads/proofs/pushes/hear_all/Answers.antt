use Rattle.std.proofs.Common.{Bool, suc, subst, arith}
use mathlib.Core.Logic.{inl, inr}
use Rattle.std.proofs.lemmas.Result.{err_from_is_err_and}
use Rattle.canvas_nodes.proofs.Going.{further}
use Rattle.canvas_nodes.proofs.Hearing.{id_stays}
use Rattle.canvas_threads.specs.Pushes.{HearsPush}
use Rattle.canvas_threads.proofs.pushes.hear_all.Goals as goal

pub returns-in_err-hear_push-clause-breaks : goal.returns-in_err-hear_push-clause-breaks
returns-in_err-hear_push-clause-breaks g c =
    let p = err_from_is_err_and c.from_residual.result c.from_residual.ensures.1 in
    rw (p.1, p.2)
    (c.pushes.invariant.2.0, c.pushes.client, c.pushes.seat, c.pushes.invariant.2.1, c.in_err-hear_push.ensures.breaks)

pub returns-then-not-branch-clause-hears : goal.returns-then-not-branch-clause-hears
returns-then-not-branch-clause-hears g c =
    let none = subst (λ (any : Bool). HearsPush g.N.RoomName.opening any c.pushes.client c.pushes.seat c.hear_push.new.client c.hear_push.new.seat) c.if-not-branch.true c.in_ok-hear_push.ensures.hears in
    inr (c.pushes.invariant.2.0, c.pushes.client, c.pushes.seat, c.pushes.invariant.2.1, none)

pub returns-then-version-clause-hears : goal.returns-then-version-clause-hears
returns-then-version-clause-hears g c =
    let heard = subst (λ (any : Bool). HearsPush g.N.RoomName.opening any c.pushes.client c.pushes.seat c.hear_push.new.client c.hear_push.new.seat) c.if-not-branch.false c.in_ok-hear_push.ensures.hears in
    inl (c.pushes.invariant.2.0, c.pushes.client, c.pushes.seat, c.pushes.invariant.2.1, heard, omega arith)

pub pushes-preserved : goal.pushes-preserved
pushes-preserved g c =
    let heard = subst (λ (any : Bool). HearsPush g.N.RoomName.opening any c.pushes.client c.pushes.seat c.hear_push.new.client c.hear_push.new.seat) c.if-not-branch.false c.in_ok-hear_push.ensures.hears in (
      further c.args.client.now c.pushes.client c.hear_push.new.client c.pushes.invariant.0 c.in_ok-hear_push.ensures.goes_on,
      id_stays c.pushes.client c.hear_push.new.client c.in_ok-hear_push.ensures.goes_on c.pushes.invariant.1,
      (suc c.pushes.invariant.2.0, (c.pushes.client, c.pushes.seat, c.pushes.invariant.2.1, heard, omega arith)),
    )
