use Rattle.canvas_lines.specs.declared.words.Verb.TheVariants.{Clear}
use Rattle.canvas_lines.specs.Spelling.{SpellsAfter, SpellsName}
use Rattle.canvas_lines.proofs.Spellings.{clearing_name}
use Rattle.canvas_lines.proofs.Unread.{passed}
use Rattle.canvas_lines.proofs.changes.read_clearing.Goals as goal

pub returns-in_err-name-clause-err : goal.returns-in_err-name-clause-err
returns-in_err-name-clause-err c =
    passed (SpellsName c.in_ok-id.rest.now) (SpellsAfter Clear c.args.rest.now) (clearing_name c.args.rest.now _ _ c.in_ok-id.ensures.ok)
    c.from_residual-in_err-name.result _ c.from_residual-in_err-name.ensures.1 c.in_err-name.ensures.err
