use Rattle.std.proofs.Common.{List, map, refl, subst, sym, take}
use Rattle.std.proofs.lemmas.Result.{err_from_is_err_and}
use mathlib.Core.Logic.{inl, inr}
use Rattle.net_outbox.specs.Texts.{text_bytes}
use Rattle.canvas_turns.specs.Lines.{OpenLine}
use Rattle.canvas_turns.specs.Told.{AreAll}
use Rattle.canvas_turns.proofs.Telling.{borrowed_all, front_all}
use Rattle.canvas_turns.proofs.serving.whisper.Goals as goal

pub returns-in_err-write_some-clause-stops : goal.returns-in_err-write_some-clause-stops
returns-in_err-write_some-clause-stops g c =
    let p = err_from_is_err_and c.from_residual-in_err-write_some.result c.from_residual-in_err-write_some.ensures.1 in
    rw (p.1, p.2) (inr (inl (
      map text_bytes c.deref.result.now,
      borrowed_all g.H.Handler.whispers text_bytes c.in_ok-texts.texts.items c.deref.result.now c.in_ok-texts.ensures.texts c.deref.ensures.value,
      c.in_err-write_some.ensures.stops,
    )))

pub returns-in_err-flush-clause-stops : goal.returns-in_err-flush-clause-stops
returns-in_err-flush-clause-stops g c =
    let n = c.in_ok-write_some.field-0 in
    let mid : OpenLine g.row.I.Denot g.row.O.Denot = record { reader = c.args.line.now.reader; writer = c.write_some.new.socket } in
    let p = err_from_is_err_and c.from_residual-in_err-flush.result c.from_residual-in_err-flush.ensures.1 in
    rw (p.1, p.2) (inr (inr (
      mid,
      (
        map text_bytes (take n c.deref.result.now),
        front_all g.H.Handler.whispers text_bytes n c.in_ok-texts.texts.items c.deref.result.now c.in_ok-texts.ensures.texts c.deref.ensures.value,
        c.in_ok-write_some.ensures.writes,
        refl,
      ),
      c.in_err-flush.ensures.sent,
      c.in_err-flush.ensures.only_io,
    )))

pub returns-clause-whispers : goal.returns-clause-whispers
returns-clause-whispers g c =
    let n = c.in_ok-write_some.field-0 in
    let mid : OpenLine g.row.I.Denot g.row.O.Denot = record { reader = c.args.line.now.reader; writer = c.write_some.new.socket } in
    inr (
      mid,
      (
        map text_bytes (take n c.deref.result.now),
        front_all g.H.Handler.whispers text_bytes n c.in_ok-texts.texts.items c.deref.result.now c.in_ok-texts.ensures.texts c.deref.ensures.value,
        c.in_ok-write_some.ensures.writes,
        refl,
      ),
      (c.in_ok-flush.ensures.sent, c.in_ok-flush.ensures.empty, refl),
    )
