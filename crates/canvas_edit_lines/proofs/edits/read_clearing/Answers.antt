use Rattle.canvas_lines.specs.Spelling.{SpellsName}
use Rattle.canvas_edit_lines.proofs.Shapes.{clearing_shape}
use Rattle.canvas_edit_lines.proofs.Pairs.{no_cut, no_first, no_second, spaced_of}
use Rattle.canvas_edit_lines.proofs.edits.read_clearing.Goals as goal

pub returns-in_err-id-clause-err : goal.returns-in_err-id-clause-err
returns-in_err-id-clause-err c = no_cut (clearing_shape c.args.rest.now) c.from_residual.result _ c.from_residual.ensures.1 c.in_err-id.ensures.err

pub returns-in_err-id-2-clause-err : goal.returns-in_err-id-2-clause-err
returns-in_err-id-2-clause-err c =
    no_first (clearing_shape c.args.rest.now) c.from_residual-in_err-id-2.result _ c.from_residual-in_err-id-2.ensures.1 _ _ c.in_ok-id.ensures.ok c.in_err-id-2.ensures.err

pub returns-in_err-name-clause-err : goal.returns-in_err-name-clause-err
returns-in_err-name-clause-err c =
    no_second (clearing_shape c.args.rest.now) c.from_residual-in_err-name.result _ c.from_residual-in_err-name.ensures.1 _ _ c.in_ok-id.ensures.ok (SpellsName c.in_ok-id.name.now) (λ x y a b. b) c.in_err-name.ensures.err

pub returns-clause-ok : goal.returns-clause-ok
returns-clause-ok c = (_, _, c.clear.ensures, spaced_of _ _ _ _ _ c.in_ok-id.ensures.ok c.in_ok-id-2.ensures.ok c.in_ok-name.ensures.ok)
