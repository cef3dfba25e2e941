use Rattle.std.proofs.Common.{subst, sym}
use Rattle.canvas_lines.specs.Errors.{IsLineError}
use Rattle.canvas_lines.specs.declared.words.Verb.TheVariants.{Set}
use Rattle.canvas_lines.specs.Spelling.{SpellsAfter, SpellsName, SpellsValue}
use Rattle.canvas_lines.proofs.Spellings.{setting_uncut, setting_name, setting_value, setting_deep}
use Rattle.canvas_lines.proofs.Unread.{passed, unread}
use Rattle.canvas_lines.proofs.changes.read_setting.Goals as goal

pub returns-in_err-name-clause-err : goal.returns-in_err-name-clause-err
returns-in_err-name-clause-err c =
    unread (SpellsAfter Set c.args.rest.now) c.from_residual-in_err-name.result _ c.from_residual-in_err-name.ensures.1 c.in_err-name.ensures.err.0
    (λ change spelled. setting_uncut c.args.rest.now _ _ c.in_ok-id.ensures.ok change spelled c.in_err-name.ensures.err.1)

pub returns-in_err-name-2-clause-err : goal.returns-in_err-name-2-clause-err
returns-in_err-name-2-clause-err c =
    passed (SpellsName c.in_ok-name.name.now) (SpellsAfter Set c.args.rest.now) (λ change. setting_name c.args.rest.now _ _ c.in_ok-id.ensures.ok change _ _ c.in_ok-name.ensures.ok)
    c.from_residual-in_err-name-2.result _ c.from_residual-in_err-name-2.ensures.1 c.in_err-name-2.ensures.err

pub returns-in_err-value-clause-err : goal.returns-in_err-value-clause-err
returns-in_err-value-clause-err c =
    passed (SpellsValue c.in_ok-name.text.now) (SpellsAfter Set c.args.rest.now) (λ change. setting_value c.args.rest.now _ _ c.in_ok-id.ensures.ok change _ _ c.in_ok-name.ensures.ok)
    c.from_residual-in_err-value.result _ c.from_residual-in_err-value.ensures.1 c.in_err-value.ensures.err

pub returns-in-Err-clause-err : goal.returns-in-Err-clause-err
returns-in-Err-clause-err c =
    subst (IsLineError (SpellsAfter Set c.args.rest.now)) (sym c.from.ensures)
    (λ change spelled. setting_deep c.args.rest.now _ _ c.in_ok-id.ensures.ok change _ _ c.in_ok-name.ensures.ok (λ t v w a b. c.every_spelling.ensures.text t v w a.1 b.1) c.in_ok-value.value c.in_ok-value.ensures.ok
    (λ shallow. absurd (let f = c.in-Err.ensures.shallow.1 shallow in cc)) spelled)
