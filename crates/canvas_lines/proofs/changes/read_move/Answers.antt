use Rattle.canvas_lines.specs.declared.words.Verb.TheVariants.{Move}
use Rattle.canvas_lines.specs.Spelling.{SpellsAfter, SpellsPlace}
use Rattle.canvas_lines.proofs.Spellings.{moving_place}
use Rattle.canvas_lines.proofs.Unread.{passed}
use Rattle.canvas_lines.proofs.changes.read_move.Goals as goal

pub returns-in_err-place-clause-err : goal.returns-in_err-place-clause-err
returns-in_err-place-clause-err c =
    passed (SpellsPlace c.in_ok-id.rest.now) (SpellsAfter Move c.args.rest.now) (moving_place c.args.rest.now _ _ c.in_ok-id.ensures.ok)
    c.from_residual-in_err-place.result _ c.from_residual-in_err-place.ensures.1 c.in_err-place.ensures.err
