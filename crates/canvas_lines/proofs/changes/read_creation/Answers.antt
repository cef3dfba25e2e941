use Rattle.std.proofs.Common.{refl}
use Rattle.canvas_lines.specs.declared.words.Verb.TheVariants.{Create}
use Rattle.canvas_lines.specs.Spelling.{SpellsAfter, SpellsPlace}
use Rattle.canvas_lines.proofs.Spellings.{creation_uncut, creation_kind, creation_place}
use Rattle.canvas_lines.proofs.Unread.{passed, unread}
use Rattle.canvas_lines.proofs.changes.read_creation.Goals as goal

pub returns-in_err-kind-clause-err : goal.returns-in_err-kind-clause-err
returns-in_err-kind-clause-err c =
    unread (SpellsAfter Create c.args.rest.now) c.from_residual-in_err-kind.result _ c.from_residual-in_err-kind.ensures.1 c.in_err-kind.ensures.err.0
    (λ change spelled. creation_uncut c.args.rest.now _ _ c.in_ok-id.ensures.ok change spelled c.in_err-kind.ensures.err.1)

pub returns-in_err-kind-2-clause-err : goal.returns-in_err-kind-2-clause-err
returns-in_err-kind-2-clause-err c =
    unread (SpellsAfter Create c.args.rest.now) c.from_residual-in_err-kind-2.result _ c.from_residual-in_err-kind-2.ensures.1 refl
    (λ change spelled. let k = creation_kind c.args.rest.now _ _ c.in_ok-id.ensures.ok change _ _ c.in_ok-kind.ensures.ok spelled in c.in_err-kind-2.ensures k.0 k.1)

pub returns-in_err-place-clause-err : goal.returns-in_err-place-clause-err
returns-in_err-place-clause-err c =
    passed (SpellsPlace c.in_ok-kind.rest.now) (SpellsAfter Create c.args.rest.now) (λ change. creation_place c.args.rest.now _ _ c.in_ok-id.ensures.ok change _ _ c.in_ok-kind.ensures.ok)
    c.from_residual-in_err-place.result _ c.from_residual-in_err-place.ensures.1 c.in_err-place.ensures.err
