use Rattle.std.proofs.Common.{refl}
use Rattle.std.proofs.lemmas.Result.{err_from_is_err_and, IfErr-weaker, IfOk-weaker}
use mathlib.Core.Logic.{inl, inr}
use Rattle.canvas_sockets.proofs.serving.serve_next.Goals as goal

pub returns-clause-turns : goal.returns-clause-turns
returns-clause-turns g c = IfOk-weaker c.handle.result _ _ (λ on h. (c.read.new.self, c.in_ok-frame.frame, c.in_ok-frame.ensures, h)) c.handle.ensures.handles

pub returns-clause-stops : goal.returns-clause-stops
returns-clause-stops g c = IfErr-weaker c.handle.result _ _ (λ e h. inr (c.read.new.self, c.in_ok-frame.frame, c.in_ok-frame.ensures, h)) c.handle.ensures.stops

pub returns-in_err-frame-clause-stops : goal.returns-in_err-frame-clause-stops
returns-in_err-frame-clause-stops g c =
    let p = err_from_is_err_and c.from_residual.result c.from_residual.ensures.1 in
    rw (p.1, p.2) (inl (refl, c.in_err-frame.ensures))
