use Rattle.std.proofs.Common.{IfErr, sym, subst}
use Rattle.canvas_lines.specs.Errors.{IsLineError}
use Rattle.canvas_script.specs.Lines.{SpellsAfterWord}
use Rattle.canvas_script.proofs.said.read_rest.Goals as goal

pub returns-in-Counted-clause-err : goal.returns-in-Counted-clause-err
returns-in-Counted-clause-err c = subst (λ first. IfErr c.read_counted.result (IsLineError (SpellsAfterWord first c.args.rest.now))) (sym c.in-Counted.is) c.read_counted.ensures.err

pub returns-in-Named-clause-err : goal.returns-in-Named-clause-err
returns-in-Named-clause-err c = subst (λ first. IfErr c.read_named.result (IsLineError (SpellsAfterWord first c.args.rest.now))) (sym c.in-Named.is) c.read_named.ensures.err

pub returns-in-Edit-clause-err : goal.returns-in-Edit-clause-err
returns-in-Edit-clause-err c = subst (λ first. IfErr c.read_edit_of.result (IsLineError (SpellsAfterWord first c.args.rest.now))) (sym c.in-Edit.is) c.read_edit_of.ensures.err

pub returns-in-Send-clause-err : goal.returns-in-Send-clause-err
returns-in-Send-clause-err c = subst (λ first. IfErr c.read_send.result (IsLineError (SpellsAfterWord first c.args.rest.now))) (sym c.in-Send.is) c.read_send.ensures.err

pub returns-in-Tell-clause-err : goal.returns-in-Tell-clause-err
returns-in-Tell-clause-err c = subst (λ first. IfErr c.read_tell.result (IsLineError (SpellsAfterWord first c.args.rest.now))) (sym c.in-Tell.is) c.read_tell.ensures.err
