use Rattle.std.proofs.Common.{refl}
use Rattle.canvas_script.specs.Words.{SpellsNode}
use Rattle.canvas_script.proofs.Shapes.{tell_shape}
use Rattle.canvas_edit_lines.proofs.Pairs.{no_cut, no_first, no_second, spaced_of}
use Rattle.canvas_script.proofs.said.read_tell.Goals as goal

pub returns-in_err-version-clause-err : goal.returns-in_err-version-clause-err
returns-in_err-version-clause-err c = no_cut (tell_shape c.args.rest.now) c.from_residual.result _ c.from_residual.ensures.1 c.in_err-version.ensures.err

pub returns-in_err-version-2-clause-err : goal.returns-in_err-version-2-clause-err
returns-in_err-version-2-clause-err c =
    no_first (tell_shape c.args.rest.now) c.from_residual-in_err-version-2.result _ c.from_residual-in_err-version-2.ensures.1 _ _ c.in_ok-version.ensures.ok c.in_err-version-2.ensures.err

pub returns-in_err-name-clause-err : goal.returns-in_err-name-clause-err
returns-in_err-name-clause-err c =
    no_second (tell_shape c.args.rest.now) c.from_residual-in_err-name.result _ c.from_residual-in_err-name.ensures.1 _ _ c.in_ok-version.ensures.ok (SpellsNode c.in_ok-version.name.now) (λ x y a b. b) c.in_err-name.ensures.err

pub returns-clause-ok : goal.returns-clause-ok
returns-clause-ok c = (c.in_ok-version-2.version, c.in_ok-name.name.now, refl, spaced_of _ _ _ _ _ c.in_ok-version.ensures.ok c.in_ok-version-2.ensures.ok c.in_ok-name.ensures.ok)
