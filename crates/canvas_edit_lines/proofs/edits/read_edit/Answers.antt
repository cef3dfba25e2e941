use Rattle.canvas_lines.specs.Spelling.{SpellsVerb}
use Rattle.canvas_edit_lines.specs.Edits.{SpellsEdit, SpellsEditRest}
use Rattle.canvas_edit_lines.proofs.Pairs.{line_error, no_cut, no_first, no_rest, ok_of, spaced_of}
use Rattle.canvas_edit_lines.proofs.Shapes.{edit_shape, verb_rest}
use Rattle.canvas_edit_lines.proofs.edits.read_edit.Goals as goal

pub returns-in_err-verb-clause-err : goal.returns-in_err-verb-clause-err
returns-in_err-verb-clause-err c = no_cut (edit_shape c.args.text.now) c.from_residual.result _ c.from_residual.ensures.1 c.in_err-verb.ensures.err

pub returns-in_err-verb-2-clause-err : goal.returns-in_err-verb-2-clause-err
returns-in_err-verb-2-clause-err c =
    no_first (edit_shape c.args.text.now) c.from_residual-in_err-verb-2.result _ c.from_residual-in_err-verb-2.ensures.1 _ _ c.in_ok-verb.ensures.ok
    (line_error (SpellsVerb c.in_ok-verb.verb.now) _ c.in_err-verb-2.ensures.err)

pub returns-clause-ok : goal.returns-clause-ok
returns-clause-ok c =
    ok_of c.read_edit_rest.result (SpellsEditRest c.in_ok-verb-2.verb c.in_ok-verb.rest.now) (SpellsEdit c.args.text.now)
    (λ request spelled. (c.in_ok-verb-2.verb, spaced_of _ _ _ _ _ c.in_ok-verb.ensures.ok c.in_ok-verb-2.ensures.ok spelled)) c.read_edit_rest.ensures.ok

pub returns-clause-err : goal.returns-clause-err
returns-clause-err c =
    no_rest (edit_shape c.args.text.now) _ _ c.in_ok-verb.ensures.ok (SpellsEditRest c.in_ok-verb-2.verb c.in_ok-verb.rest.now)
    (verb_rest c.in_ok-verb.verb.now c.in_ok-verb.rest.now c.in_ok-verb-2.verb c.in_ok-verb-2.ensures.ok) c.read_edit_rest.result c.read_edit_rest.ensures.err
