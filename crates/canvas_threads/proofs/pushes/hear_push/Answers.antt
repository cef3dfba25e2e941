use Rattle.std.proofs.Common.{List, Global, map, refl, sym, subst}
use mathlib.Core.Logic.{inl}
use Rattle.std.proofs.lemmas.Result.{err_from_is_err_and}
use Rattle.canvas_judge.specs.declared.message.Message.{Message}
use Rattle.canvas_judge.specs.Seen.{seen_message}
use Rattle.canvas_nodes.specs.declared.link.LinkError.{LinkError}
use Rattle.canvas_nodes.specs.Hears.{HearsEach, HearsSome}
use Rattle.canvas_threads.proofs.HeardPushes.{broke_next, heard_next}
use Rattle.canvas_threads.proofs.pushes.hear_push.Goals as goal

pub returns-in_err-told-clause-breaks : goal.returns-in_err-told-clause-breaks
returns-in_err-told-clause-breaks g c =
    let p = err_from_is_err_and c.from_residual.result c.from_residual.ensures.1 in
    let r = c.in_err-told.ensures.refuses in
    rw (p.1, p.2)
    (r.0, r.1, inl (r.2, refl))

pub returns-in_err-hear-in-Some-clause-breaks : goal.returns-in_err-hear-in-Some-clause-breaks
returns-in_err-hear-in-Some-clause-breaks g c =
    let o = g.N.RoomName.opening in
    let p = err_from_is_err_and c.from_residual-in_err-hear-in-Some.result c.from_residual-in_err-hear-in-Some.ensures.1 in
    let n = rw c.in-Some.is at c.in_ok-told.ensures.pushes in
    let some = subst (λ (ms : List (Message Global)). HearsSome c.args.client.now (map seen_message ms) p.0 c.hear.new.client) c.deref.ensures.value
    (subst (λ (e : LinkError). HearsSome c.args.client.now (map seen_message c.deref.result.now) e c.hear.new.client) (sym p.2) c.in_err-hear-in-Some.ensures.breaks) in
    rw p.1
    (broke_next o p.0 c.args.client.now c.args.seat.now (map seen_message c.in-Some.told.items) c.hear.new.client c.next.new.seat n some)

pub returns-in_ok-hear-in-Some-clause-hears : goal.returns-in_ok-hear-in-Some-clause-hears
returns-in_ok-hear-in-Some-clause-hears g c =
    let o = g.N.RoomName.opening in
    let n = rw c.in-Some.is at c.in_ok-told.ensures.pushes in
    let all = subst (λ (ms : List (Message Global)). HearsEach c.args.client.now (map seen_message ms) c.hear.new.client) c.deref.ensures.value c.in_ok-hear-in-Some.ensures.hears in
    heard_next o c.args.client.now c.args.seat.now (map seen_message c.in-Some.told.items) c.hear.new.client c.next.new.seat n all

pub returns-in-None-clause-hears : goal.returns-in-None-clause-hears
returns-in-None-clause-hears g c =
    let n = rw c.in-None.is at c.in_ok-told.ensures.pushes in
    (refl, n.0, n.1)
