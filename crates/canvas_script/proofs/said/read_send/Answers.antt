use Rattle.std.proofs.Common.{refl}
use Rattle.canvas_script.specs.Words.{SpellsCount}
use Rattle.canvas_script.proofs.Shapes.{send_shape}
use Rattle.canvas_edit_lines.proofs.Pairs.{no_cut, no_first, no_second, spaced_of}
use Rattle.canvas_script.proofs.said.read_send.Goals as goal

pub returns-in_err-name-clause-err : goal.returns-in_err-name-clause-err
returns-in_err-name-clause-err c = no_cut (send_shape c.args.rest.now) c.from_residual.result _ c.from_residual.ensures.1 c.in_err-name.ensures.err

pub returns-in_err-name-2-clause-err : goal.returns-in_err-name-2-clause-err
returns-in_err-name-2-clause-err c =
    no_first (send_shape c.args.rest.now) c.from_residual-in_err-name-2.result _ c.from_residual-in_err-name-2.ensures.1 _ _ c.in_ok-name.ensures.ok c.in_err-name-2.ensures.err

pub returns-in_err-place-clause-err : goal.returns-in_err-place-clause-err
returns-in_err-place-clause-err c =
    no_second (send_shape c.args.rest.now) c.from_residual-in_err-place.result _ c.from_residual-in_err-place.ensures.1 _ _ c.in_ok-name.ensures.ok (SpellsCount c.in_ok-name.place.now) (λ x y a b. b) c.in_err-place.ensures.err

pub returns-clause-ok : goal.returns-clause-ok
returns-clause-ok c = (c.in_ok-name-2.name.now, c.in_ok-place.place, refl, spaced_of _ _ _ _ _ c.in_ok-name.ensures.ok c.in_ok-name-2.ensures.ok c.in_ok-place.ensures.ok)
