use Rattle.std.proofs.Common.{refl}
use Rattle.canvas_lines.specs.Spelling.{SpellsPlace, SpellsPosition}
use Rattle.canvas_lines.proofs.Parts.{place_parts}
use Rattle.canvas_lines.proofs.Unread.{passed, unread}
use Rattle.canvas_lines.proofs.words.read_place.Goals as goal

pub returns-in_err-parent-2-clause-err : goal.returns-in_err-parent-2-clause-err
returns-in_err-parent-2-clause-err c =
    unread (SpellsPlace c.args.text.now) c.from_residual-in_err-parent-2.result _ c.from_residual-in_err-parent-2.ensures.1 refl
    (λ place spelled. c.in_err-parent-2.ensures place.parent (spelled.0.0, (place_parts c.args.text.now _ _ place c.in_ok-parent.ensures.ok spelled.0 spelled.1).0))

pub returns-in_err-pos-clause-err : goal.returns-in_err-pos-clause-err
returns-in_err-pos-clause-err c =
    passed (SpellsPosition c.in_ok-parent.pos.now) (SpellsPlace c.args.text.now)
    (λ place spelled. (place.pos, (spelled.0.1, (place_parts c.args.text.now _ _ place c.in_ok-parent.ensures.ok spelled.0 spelled.1).1)))
    c.from_residual-in_err-pos.result _ c.from_residual-in_err-pos.ensures.1 c.in_err-pos.ensures.err
