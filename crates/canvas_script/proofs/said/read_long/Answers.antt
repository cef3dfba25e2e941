use Rattle.canvas_script.specs.Lines.{SpellsLong, SpellsAfterWord, seen_said}
use Rattle.canvas_edit_lines.proofs.Pairs.{no_cut, no_first, no_rest, ok_of, spaced_of}
use Rattle.canvas_script.proofs.Shapes.{long_shape, head_rest}
use Rattle.canvas_script.proofs.said.read_long.Goals as goal

pub returns-in_err-head-clause-err : goal.returns-in_err-head-clause-err
returns-in_err-head-clause-err c = no_cut (long_shape c.args.line.now) c.from_residual.result _ c.from_residual.ensures.1 c.in_err-head.ensures.err

pub returns-in_err-head-2-clause-err : goal.returns-in_err-head-2-clause-err
returns-in_err-head-2-clause-err c =
    no_first (long_shape c.args.line.now) c.from_residual-in_err-head-2.result _ c.from_residual-in_err-head-2.ensures.1 _ _ c.in_ok-head.ensures.ok c.in_err-head-2.ensures.err

pub returns-clause-ok : goal.returns-clause-ok
returns-clause-ok c =
    ok_of c.read_rest.result (λ said. SpellsAfterWord c.in_ok-head-2.head c.in_ok-head.rest.now (seen_said said)) (λ said. SpellsLong c.args.line.now (seen_said said))
    (λ said spelled. (c.in_ok-head-2.head, spaced_of _ _ _ _ _ c.in_ok-head.ensures.ok c.in_ok-head-2.ensures.ok spelled)) c.read_rest.ensures.ok

pub returns-clause-err : goal.returns-clause-err
returns-clause-err c =
    no_rest (long_shape c.args.line.now) _ _ c.in_ok-head.ensures.ok (SpellsAfterWord c.in_ok-head-2.head c.in_ok-head.rest.now)
    (head_rest c.in_ok-head.head.now c.in_ok-head.rest.now c.in_ok-head-2.head c.in_ok-head-2.ensures.ok) c.read_rest.result c.read_rest.ensures.err
