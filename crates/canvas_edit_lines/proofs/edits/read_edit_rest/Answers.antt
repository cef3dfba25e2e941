use Rattle.std.proofs.Common.{IfErr, sym, subst}
use Rattle.canvas_lines.specs.Errors.{IsLineError}
use Rattle.canvas_edit_lines.specs.Edits.{SpellsEditRest}
use Rattle.canvas_edit_lines.proofs.edits.read_edit_rest.Goals as goal

pub returns-in-Create-clause-err : goal.returns-in-Create-clause-err
returns-in-Create-clause-err c = subst (λ verb. IfErr c.read_creation.result (IsLineError (SpellsEditRest verb c.args.rest.now))) (sym c.in-Create.is) c.read_creation.ensures.err

pub returns-in-Set-clause-err : goal.returns-in-Set-clause-err
returns-in-Set-clause-err c = subst (λ verb. IfErr c.read_setting.result (IsLineError (SpellsEditRest verb c.args.rest.now))) (sym c.in-Set.is) c.read_setting.ensures.err

pub returns-in-Clear-clause-err : goal.returns-in-Clear-clause-err
returns-in-Clear-clause-err c = subst (λ verb. IfErr c.read_clearing.result (IsLineError (SpellsEditRest verb c.args.rest.now))) (sym c.in-Clear.is) c.read_clearing.ensures.err

pub returns-in-Move-clause-err : goal.returns-in-Move-clause-err
returns-in-Move-clause-err c = subst (λ verb. IfErr c.read_move.result (IsLineError (SpellsEditRest verb c.args.rest.now))) (sym c.in-Move.is) c.read_move.ensures.err

pub returns-in-Delete-clause-err : goal.returns-in-Delete-clause-err
returns-in-Delete-clause-err c = subst (λ verb. IfErr c.read_deletion.result (IsLineError (SpellsEditRest verb c.args.rest.now))) (sym c.in-Delete.is) c.read_deletion.ensures.err
