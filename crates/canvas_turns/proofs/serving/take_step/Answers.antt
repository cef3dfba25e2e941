use Rattle.std.proofs.Common.{ap, refl, subst, ◌∙◌}
use mathlib.Core.Logic.{inl, inr}
use Rattle.canvas_sockets.specs.declared.turning.TurnEnd.{TurnEnd}
use Rattle.canvas_turns.specs.Lines.{OpenLine}
use Rattle.canvas_turns.specs.Served.{TakesTurn}
use Rattle.canvas_turns.proofs.Stepping.{not_closed, step_after}
use Rattle.canvas_turns.proofs.serving.take_step.Goals as goal

pub returns-in-Err : goal.returns-in-Err
returns-in-Err g c = inr (inr (c.in-Err.error, inl (c.take_turn.new.line, c.in-Err.ensures.stops), c.failed.ensures))

pub returns-in-Err-flush : goal.returns-in-Err-flush
returns-in-Err-flush g c =
    inr (inr (
      c.in-Err-flush.error,
      inr (inl (
        c.in-Ok.end,
        c.take_turn.new.line,
        record (c.take_turn.new.line) { writer = c.flush.new.self },
        c.in-Ok.ensures.turns,
        (c.in-Err-flush.ensures.sent, c.in-Err-flush.ensures.only_io),
      )),
      c.end_of.ensures,
    ))

pub returns-then-has_closed : goal.returns-then-has_closed
returns-then-has_closed g c =
    let closed = c.has_closed.ensures.0 c.if-has_closed.true in
    let turns = subst (λ (t : TurnEnd). TakesTurn g.H.Replier.replies g.H.Handler.tells g.H.Handler.goes_to g.H.Handler.whispers g.I.Read.remaining g.O.Write.contents t c.args.handler.now c.args.line.now c.take_turn.new.replier c.take_turn.new.line) closed c.in-Ok.ensures.turns in
    inl (record (c.take_turn.new.line) { writer = c.flush.new.self }, (c.take_turn.new.line, turns, (c.in_default.ensures.sent, c.in_default.ensures.empty, refl)), refl)

pub returns-in-Ok-true : goal.returns-in-Ok-true
returns-in-Ok-true g c = (
  c.tell.new.line,
  (
    c.in-Ok.end,
    c.take_turn.new.replier,
    record (c.take_turn.new.line) { writer = c.flush.new.self },
    not_closed c.has_closed.result c.has_closed.ensures.1 c.if-has_closed.false,
    (c.take_turn.new.line, c.in-Ok.ensures.turns, (c.in_default.ensures.sent, c.in_default.ensures.empty, refl)),
    (c.in-Ok-true.field-0, c.in-Ok-true.ensures.tells),
  ),
  inl refl,
)

pub returns-in-Ok-true-whisper : goal.returns-in-Ok-true-whisper
returns-in-Ok-true-whisper g c =
    rw c.whisper.ensures.stays (
      c.tell.new.line,
      (
        c.in-Ok.end,
        c.take_turn.new.replier,
        record (c.take_turn.new.line) { writer = c.flush.new.self },
        not_closed c.has_closed.result c.has_closed.ensures.1 c.if-has_closed.false,
        (c.take_turn.new.line, c.in-Ok.ensures.turns, (c.in_default.ensures.sent, c.in_default.ensures.empty, refl)),
        (c.in-Ok-false.field-0, c.in-Ok-false.ensures.tells),
      ),
      c.in-Ok-true-whisper.ensures.whispers,
    )

pub returns-in-Ok-false-whisper : goal.returns-in-Ok-false-whisper
returns-in-Ok-false-whisper g c =
    let before : OpenLine g.row.I.Denot g.row.O.Denot = record (c.take_turn.new.line) { writer = c.flush.new.self } in
    let told = rw c.in-Ok-false.field-0-test at c.in-Ok-false.ensures.tells in
    let still = c.in-Ok-false-whisper.ensures.nothing c.in-Ok-false-whisper.field-0-test in
    let empty = ap (λ (l : OpenLine g.row.I.Denot g.row.O.Denot). l.writer.output) (still ∙ told.0) ∙ c.in_default.ensures.empty in
    rw c.whisper.ensures.stays (
    step_after g.H.Replier.replies g.H.Handler.tells g.H.Handler.goes_to g.H.Handler.whispers g.I.Read.remaining g.O.Write.contents c.after_turn.result c.args.handler.now c.args.line.now c.tell.new.handler c.whisper.new.line c.after_turn.ensures (
      c.tell.new.line,
      (
        c.in-Ok.end,
        c.take_turn.new.replier,
        before,
        not_closed c.has_closed.result c.has_closed.ensures.1 c.if-has_closed.false,
        (c.take_turn.new.line, c.in-Ok.ensures.turns, (c.in_default.ensures.sent, c.in_default.ensures.empty, refl)),
        (c.in-Ok-false.field-0, c.in-Ok-false.ensures.tells),
      ),
      c.in-Ok-false-whisper.ensures.whispers,
    )
    empty
    )

pub returns-in-Err-whisper : goal.returns-in-Err-whisper
returns-in-Err-whisper g c =
    rw c.whisper.ensures.stays (inr (inr (
      c.in-Err-whisper.error,
      inr (inr (inr (inl (
        c.tell.new.line,
        c.whisper.new.line,
        (
          c.in-Ok.end,
          c.take_turn.new.replier,
          record (c.take_turn.new.line) { writer = c.flush.new.self },
          not_closed c.has_closed.result c.has_closed.ensures.1 c.if-has_closed.false,
          (c.take_turn.new.line, c.in-Ok.ensures.turns, (c.in_default.ensures.sent, c.in_default.ensures.empty, refl)),
          (c.in-Ok-false.field-0, c.in-Ok-false.ensures.tells),
        ),
        c.in-Err-whisper.ensures.stops,
      )))),
      c.end_of-in-Err-whisper.ensures,
    )))

pub returns-in-Err-tell : goal.returns-in-Err-tell
returns-in-Err-tell g c =
    inr (inr (
      c.in-Err-tell.error,
      inr (inr (inl (
        c.in-Ok.end,
        c.take_turn.new.replier,
        record (c.take_turn.new.line) { writer = c.flush.new.self },
        c.tell.new.line,
        (c.take_turn.new.line, c.in-Ok.ensures.turns, (c.in_default.ensures.sent, c.in_default.ensures.empty, refl)),
        c.in-Err-tell.ensures.stops,
      ))),
      c.end_of-in-Err-tell.ensures,
    ))
