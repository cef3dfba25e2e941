use Rattle.std.proofs.Common.{refl}
use Rattle.canvas_edit_lines.specs.Edits.{SpellsEdit}
use Rattle.canvas_script.proofs.Shapes.{edit_of_shape}
use Rattle.canvas_edit_lines.proofs.Pairs.{no_cut, no_first, no_second, spaced_of}
use Rattle.canvas_script.proofs.said.read_edit_of.Goals as goal

pub returns-in_err-name-clause-err : goal.returns-in_err-name-clause-err
returns-in_err-name-clause-err c = no_cut (edit_of_shape c.args.rest.now) c.from_residual.result _ c.from_residual.ensures.1 c.in_err-name.ensures.err

pub returns-in_err-name-2-clause-err : goal.returns-in_err-name-2-clause-err
returns-in_err-name-2-clause-err c =
    no_first (edit_of_shape c.args.rest.now) c.from_residual-in_err-name-2.result _ c.from_residual-in_err-name-2.ensures.1 _ _ c.in_ok-name.ensures.ok c.in_err-name-2.ensures.err

pub returns-in_err-request-clause-err : goal.returns-in_err-request-clause-err
returns-in_err-request-clause-err c =
    no_second (edit_of_shape c.args.rest.now) c.from_residual-in_err-request.result _ c.from_residual-in_err-request.ensures.1 _ _ c.in_ok-name.ensures.ok (SpellsEdit c.in_ok-name.edit.now) (λ x y a b. b) c.in_err-request.ensures.err

pub returns-clause-ok : goal.returns-clause-ok
returns-clause-ok c = (c.in_ok-name-2.name.now, c.in_ok-request.request, refl, spaced_of _ _ _ _ _ c.in_ok-name.ensures.ok c.in_ok-name-2.ensures.ok c.in_ok-request.ensures.ok)
