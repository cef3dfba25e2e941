use Rattle.canvas_lines.specs.Spelling.{SpellsChange}
use Rattle.canvas_lines.proofs.Spellings.{change_uncut, change_verb}
use Rattle.canvas_lines.proofs.Unread.{unread}
use Rattle.canvas_lines.proofs.changes.read_change.Goals as goal

pub returns-in_err-verb-clause-err : goal.returns-in_err-verb-clause-err
returns-in_err-verb-clause-err c =
    unread (SpellsChange c.args.text.now) c.from_residual.result _ c.from_residual.ensures.1 c.in_err-verb.ensures.err.0 (change_uncut c.args.text.now c.in_err-verb.ensures.err.1)

pub returns-in_err-verb-2-clause-err : goal.returns-in_err-verb-2-clause-err
returns-in_err-verb-2-clause-err c =
    unread (SpellsChange c.args.text.now) c.from_residual-in_err-verb-2.result _ c.from_residual-in_err-verb-2.ensures.1 c.in_err-verb-2.ensures.err.0
    (λ change spelled. let v = change_verb c.args.text.now _ _ c.in_ok-verb.ensures.ok change spelled in c.in_err-verb-2.ensures.err.1 v.0 v.1)
