use Rattle.canvas_edit_lines.specs.Edits.{SpellsProperty}
use Rattle.canvas_edit_lines.proofs.Shapes.{setting_shape}
use Rattle.canvas_edit_lines.proofs.Pairs.{no_cut, no_first, no_second, spaced_of}
use Rattle.canvas_edit_lines.proofs.edits.read_setting.Goals as goal

pub returns-in_err-id-clause-err : goal.returns-in_err-id-clause-err
returns-in_err-id-clause-err c = no_cut (setting_shape c.args.rest.now) c.from_residual.result _ c.from_residual.ensures.1 c.in_err-id.ensures.err

pub returns-in_err-id-2-clause-err : goal.returns-in_err-id-2-clause-err
returns-in_err-id-2-clause-err c =
    no_first (setting_shape c.args.rest.now) c.from_residual-in_err-id-2.result _ c.from_residual-in_err-id-2.ensures.1 _ _ c.in_ok-id.ensures.ok c.in_err-id-2.ensures.err

pub returns-in_err-name-clause-err : goal.returns-in_err-name-clause-err
returns-in_err-name-clause-err c =
    no_second (setting_shape c.args.rest.now) c.from_residual-in_err-name.result _ c.from_residual-in_err-name.ensures.1 _ _ c.in_ok-id.ensures.ok (SpellsProperty c.in_ok-id.property.now) (λ x y a b. b) c.in_err-name.ensures.err

pub returns-clause-ok : goal.returns-clause-ok
returns-clause-ok c = (_, _, _, c.in_ok-set.ensures.ok, spaced_of _ _ _ _ _ c.in_ok-id.ensures.ok c.in_ok-id-2.ensures.ok c.in_ok-name.ensures.ok)

pub returns-in_err-set-clause-err : goal.returns-in_err-set-clause-err
returns-in_err-set-clause-err c = absurd (let f = c.in_err-set.ensures.shallow.1 c.in_ok-name.ensures.ok.4.1 in cc)
