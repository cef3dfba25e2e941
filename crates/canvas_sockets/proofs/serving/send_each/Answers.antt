use Rattle.std.proofs.lemmas.Result.{err_from_is_err_and, IfErr-weaker, on_ok_weaker}
use mathlib.Core.Logic.{inl, inr}
use Rattle.std.proofs.Common.{ℕ, List, Vec, Global, map, subst}
use Rattle.tungstenite.specs.Failure.{IsIo}
use Rattle.tungstenite.specs.declared.error.Error.{Error}
use Rattle.canvas_sockets.specs.Served.{SendsEachText, StopsSending}
use Rattle.canvas_sockets.proofs.serving.send_each.Goals as goal

pub returns-clause-sends : goal.returns-clause-sends
returns-clause-sends g c =
    on_ok_weaker c.flush.result
    (λ empty. subst (λ (vs : List (Vec ℕ Global)). SendsEachText g.S.Write.contents c.args.socket.now (map (λ (v : Vec ℕ Global). v.items) vs) c.flush.new.self) c.deref.ensures.value
    (c.write_each.new.socket, c.in_ok-write_each.ensures.writes, (c.flush.ensures.sent, empty)))
    c.flush.ensures.empty

pub returns-clause-stops : goal.returns-clause-stops
returns-clause-stops g c =
    IfErr-weaker c.flush.result IsIo (λ (e : Error). StopsSending g.S.Write.contents c.args.socket.now (map (λ (v : Vec ℕ Global). v.items) c.args.texts.items) e c.flush.new.self)
    (λ e io. subst (λ (vs : List (Vec ℕ Global)). StopsSending g.S.Write.contents c.args.socket.now (map (λ (v : Vec ℕ Global). v.items) vs) e c.flush.new.self) c.deref.ensures.value
    (inr (c.write_each.new.socket, c.in_ok-write_each.ensures.writes, c.flush.ensures.sent, io)))
    c.flush.ensures.only_io

pub returns-in_err-write_each-clause-stops : goal.returns-in_err-write_each-clause-stops
returns-in_err-write_each-clause-stops g c =
    let p = err_from_is_err_and c.from_residual.result c.from_residual.ensures.1 in
    rw (p.1, p.2) (subst (λ (vs : List (Vec ℕ Global)). StopsSending g.S.Write.contents c.args.socket.now (map (λ (v : Vec ℕ Global). v.items) vs) c.in_err-write_each.field-0.0 c.write_each.new.socket) c.deref.ensures.value
    (inl c.in_err-write_each.ensures.stops))
