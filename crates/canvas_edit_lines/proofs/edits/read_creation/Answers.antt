use Rattle.canvas_edit_lines.specs.Edits.{SpellsTarget}
use Rattle.canvas_edit_lines.proofs.Shapes.{creation_shape}
use Rattle.canvas_edit_lines.proofs.Pairs.{no_cut, no_first, no_second, spaced_of}
use Rattle.canvas_edit_lines.proofs.edits.read_creation.Goals as goal

pub returns-in_err-kind-clause-err : goal.returns-in_err-kind-clause-err
returns-in_err-kind-clause-err c = no_cut (creation_shape c.args.rest.now) c.from_residual.result _ c.from_residual.ensures.1 c.in_err-kind.ensures.err

pub returns-in_err-kind-2-clause-err : goal.returns-in_err-kind-2-clause-err
returns-in_err-kind-2-clause-err c =
    no_first (creation_shape c.args.rest.now) c.from_residual-in_err-kind-2.result _ c.from_residual-in_err-kind-2.ensures.1 _ _ c.in_ok-kind.ensures.ok c.in_err-kind-2.ensures.err

pub returns-in_err-parent-clause-err : goal.returns-in_err-parent-clause-err
returns-in_err-parent-clause-err c =
    no_second (creation_shape c.args.rest.now) c.from_residual-in_err-parent.result _ c.from_residual-in_err-parent.ensures.1 _ _ c.in_ok-kind.ensures.ok (SpellsTarget c.in_ok-kind.target.now) (λ x y a b. b) c.in_err-parent.ensures.err

pub returns-clause-ok : goal.returns-clause-ok
returns-clause-ok c = (_, _, c.create.ensures, spaced_of _ _ _ _ _ c.in_ok-kind.ensures.ok c.in_ok-kind-2.ensures.ok c.in_ok-parent.ensures.ok)
