use Rattle.canvas_edit_lines.specs.Edits.{SpellsShallow}
use Rattle.canvas_edit_lines.proofs.Shapes.{property_shape}
use Rattle.canvas_edit_lines.proofs.Pairs.{no_cut, no_first, no_second, spaced_of}
use Rattle.canvas_edit_lines.proofs.edits.read_property.Goals as goal

pub returns-in_err-name-clause-err : goal.returns-in_err-name-clause-err
returns-in_err-name-clause-err c = no_cut (property_shape c.args.text.now) c.from_residual.result _ c.from_residual.ensures.1 c.in_err-name.ensures.err

pub returns-in_err-name-2-clause-err : goal.returns-in_err-name-2-clause-err
returns-in_err-name-2-clause-err c =
    no_first (property_shape c.args.text.now) c.from_residual-in_err-name-2.result _ c.from_residual-in_err-name-2.ensures.1 _ _ c.in_ok-name.ensures.ok c.in_err-name-2.ensures.err

pub returns-in_err-value-clause-err : goal.returns-in_err-value-clause-err
returns-in_err-value-clause-err c =
    no_second (property_shape c.args.text.now) c.from_residual-in_err-value.result _ c.from_residual-in_err-value.ensures.1 _ _ c.in_ok-name.ensures.ok (SpellsShallow c.in_ok-name.json.now) (λ x y a b. b) c.in_err-value.ensures.err

pub returns-clause-ok : goal.returns-clause-ok
returns-clause-ok c = spaced_of _ _ _ _ _ c.in_ok-name.ensures.ok c.in_ok-name-2.ensures.ok c.in_ok-value.ensures.ok
