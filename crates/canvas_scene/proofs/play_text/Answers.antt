use Rattle.std.proofs.Common.{rules}
use Rattle.canvas_script.specs.Reading.{IsWorld}
use Rattle.canvas_scene.specs.Results.{IsTextLeft}
use Rattle.canvas_scene.proofs.Texts.{log_left, log_played, passed_on}
use Rattle.canvas_scene.proofs.play_text.Goals as goal

pub returns-in_ok-log_run-clause-played : goal.returns-in_ok-log_run-clause-played
returns-in_ok-log_run-clause-played c =
    let h = c.in_ok-log_run.ensures in
    log_played c.args.text.now c.args.out.now.items c.log_run.new.out.items _ _ h.log h.fold h.readable h.report

pub returns-in_err-log_run-clause-left : goal.returns-in_err-log_run-clause-left
returns-in_err-log_run-clause-left c =
    let not : IsWorld c.args.text.now → ⊥ = search rules in
    let h = c.in_err-log_run.ensures in
    passed_on (IsTextLeft c.args.text.now c.args.out.now.items c.log_run.new.out.items) c.from_residual-in_err-log_run.result _ c.from_residual-in_err-log_run.ensures.1
    (log_left c.args.text.now c.args.out.now.items c.log_run.new.out.items _ not h.error h.left)
