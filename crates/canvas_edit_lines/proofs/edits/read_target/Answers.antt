use Rattle.canvas_edit_lines.specs.Words.{SpellsChildBefore}
use Rattle.canvas_edit_lines.proofs.Shapes.{target_shape}
use Rattle.canvas_edit_lines.proofs.Pairs.{no_cut, no_first, no_second, spaced_of}
use Rattle.canvas_edit_lines.proofs.edits.read_target.Goals as goal

pub returns-in_err-parent-clause-err : goal.returns-in_err-parent-clause-err
returns-in_err-parent-clause-err c = no_cut (target_shape c.args.text.now) c.from_residual.result _ c.from_residual.ensures.1 c.in_err-parent.ensures.err

pub returns-in_err-parent-2-clause-err : goal.returns-in_err-parent-2-clause-err
returns-in_err-parent-2-clause-err c =
    no_first (target_shape c.args.text.now) c.from_residual-in_err-parent-2.result _ c.from_residual-in_err-parent-2.ensures.1 _ _ c.in_ok-parent.ensures.ok c.in_err-parent-2.ensures.err

pub returns-in_err-after-clause-err : goal.returns-in_err-after-clause-err
returns-in_err-after-clause-err c =
    no_second (target_shape c.args.text.now) c.from_residual-in_err-after.result _ c.from_residual-in_err-after.ensures.1 _ _ c.in_ok-parent.ensures.ok (SpellsChildBefore c.in_ok-parent.after.now) (λ x y a b. b) c.in_err-after.ensures.err

pub returns-clause-ok : goal.returns-clause-ok
returns-clause-ok c = spaced_of _ _ _ _ _ c.in_ok-parent.ensures.ok c.in_ok-parent-2.ensures.ok c.in_ok-after.ensures.ok
