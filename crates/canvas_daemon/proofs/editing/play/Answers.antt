use Rattle.std.proofs.lemmas.Result.{err_from_is_err_and}
use Rattle.canvas_daemon.proofs.Playing.{cut_at_line, cut_at_reading, next_before, none_before, one_text}
use Rattle.canvas_daemon.proofs.editing.play.Goals as goal

pub loop-number-init : goal.loop-number-init
loop-number-init g c = none_before c.args.node.now.client (g.I.Read.remaining c.args.input.now) (g.W.Write.contents c.args.output.now)

pub returns-in_err-line-clause-cut : goal.returns-in_err-line-clause-cut
returns-in_err-line-clause-cut g c =
    let p = err_from_is_err_and c.from_residual.result c.from_residual.ensures.1 in
    rw (p.1, p.2) (cut_at_reading _ _ _ _ _ _ _ _ c.loop-number.invariant.0 c.in_err-line.ensures.faults)

pub returns-in_err-play_line-clause-cut : goal.returns-in_err-play_line-clause-cut
returns-in_err-play_line-clause-cut g c =
    let p = err_from_is_err_and c.from_residual-in_err-play_line.result c.from_residual-in_err-play_line.ensures.1 in
    let taken = one_text (g.I.Read.remaining c.loop-number.input) (g.I.Read.remaining c.next_line.new.input) c.in_ok-line.field-0 c.in-Some.line c.deref.result.now c.in-Some.is c.deref.ensures.value c.in_ok-line.ensures.taken in
    rw (p.1, p.2) (cut_at_line _ _ _ _ _ _ _ _ _ _ _ c.loop-number.invariant taken c.in_err-play_line.ensures.cut)

pub loop-number-preserved : goal.loop-number-preserved
loop-number-preserved g c =
    let taken = one_text (g.I.Read.remaining c.loop-number.input) (g.I.Read.remaining c.next_line.new.input) c.in_ok-line.field-0 c.in-Some.line c.deref.result.now c.in-Some.is c.deref.ensures.value c.in_ok-line.ensures.taken in
    next_before _ _ _ _ _ _ _ _ _ _ _ c.loop-number.invariant taken c.in_ok-play_line.ensures.answered
