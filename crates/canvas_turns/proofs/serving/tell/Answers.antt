use Rattle.std.proofs.Common.{ℕ, ◌-◌, ◌<◌, refl, subst, sym, arith}
use Rattle.std.proofs.lemmas.Result.{err_from_is_err_and}
use mathlib.Core.Logic.{inl, inr}
use Rattle.net_outbox.specs.Texts.{text_bytes}
use Rattle.canvas_turns.specs.Lines.{OpenLine}
use Rattle.canvas_turns.proofs.Telling.{has_version, stops_told, tells_some}
use Rattle.canvas_turns.proofs.serving.tell.Goals as goal

pub returns-in_err-count-clause-stops : goal.returns-in_err-count-clause-stops
returns-in_err-count-clause-stops g c =
    let p = err_from_is_err_and c.from_residual-in_err-count.result c.from_residual-in_err-count.ensures.1 in
    rw (p.1, p.2) (inr (inl (stops_told g.H.Handler.tells _ text_bytes c.in_ok-push.push.texts.items c.deref.result.now c.in_ok-push.push.versions.items c.in_err-count.field-0.0
    c.args.handler.now c.rest.new.self c.push.new.self c.args.line.now.writer c.write_some.new.socket c.in_ok-push.ensures.tells c.rest.ensures c.deref.ensures.value c.in_err-count.ensures.stops)))

pub index-requires : goal.index-requires
index-requires g c =
    let some : 0 < c.in_ok-count.count = omega (arith, c.if-count-eq0.false) in
    subst (λ (n : ℕ). c.in_ok-count.count - 1 < n) (sym c.in_ok-push.push.versions.ok.0)
    (has_version g.H.Handler.tells text_bytes c.in_ok-push.push.texts.items c.deref.result.now c.in_ok-push.push.versions.items c.in_ok-count.count c.rest.new.self c.push.new.self
    c.in_ok-push.ensures.tells c.deref.ensures.value c.in_ok-count.ensures.some some)

pub returns-in_err-flush-clause-stops : goal.returns-in_err-flush-clause-stops
returns-in_err-flush-clause-stops g c =
    let some : 0 < c.in_ok-count.count = omega (arith, c.if-count-eq0.false) in
    let mid : OpenLine g.row.I.Denot g.row.O.Denot = record { reader = c.args.line.now.reader; writer = c.write_some.new.socket } in
    let p = err_from_is_err_and c.from_residual-in_err-flush.result c.from_residual-in_err-flush.ensures.1 in
    rw (p.1, p.2) (inr (inr (
      mid,
      tells_some g.H.Handler.tells g.H.Handler.goes_to g.O.Write.contents text_bytes c.in_ok-push.push.texts.items c.deref.result.now c.in_ok-push.push.versions.items
          c.in_ok-count.count c.index.result.now c.args.handler.now c.rest.new.self c.args.line.now c.push.new.self c.go_to.new.self mid c.in_ok-push.ensures.tells c.rest.ensures c.deref.ensures.value some
          c.in_ok-count.ensures.some c.index.ensures c.in_ok-count.ensures.writes refl c.go_to.ensures,
      c.in_err-flush.ensures.sent,
      c.in_err-flush.ensures.only_io,
    )))

pub returns-clause-tells : goal.returns-clause-tells
returns-clause-tells g c =
    let some : 0 < c.in_ok-count.count = omega (arith, c.if-count-eq0.false) in
    let mid : OpenLine g.row.I.Denot g.row.O.Denot = record { reader = c.args.line.now.reader; writer = c.write_some.new.socket } in (
      mid,
      tells_some g.H.Handler.tells g.H.Handler.goes_to g.O.Write.contents text_bytes c.in_ok-push.push.texts.items c.deref.result.now c.in_ok-push.push.versions.items
          c.in_ok-count.count c.index.result.now c.args.handler.now c.rest.new.self c.args.line.now c.push.new.self c.go_to.new.self mid c.in_ok-push.ensures.tells c.rest.ensures c.deref.ensures.value some
          c.in_ok-count.ensures.some c.index.ensures c.in_ok-count.ensures.writes refl c.go_to.ensures,
      (c.in_ok-flush.ensures.sent, c.in_ok-flush.ensures.empty, refl),
    )
