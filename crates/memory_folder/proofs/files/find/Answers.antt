use Rattle.std.proofs.Common.{sym, ◌∙◌, ap}
use Rattle.std.proofs.lemmas.List.{get_or_default}
use Rattle.canvas_folder.specs.Names.{same}
use Rattle.memory_folder.specs.declared.held.Held.{Held}
use Rattle.memory_folder.proofs.Changing.{same_true, same_false, misses_more}
use Rattle.memory_folder.proofs.files.find.Goals as goal

pub returns-then-eq-clause-found : goal.returns-then-eq-clause-found
returns-then-eq-clause-found c d less =
    let x = c.index-files-i.result in
    let N = c.args.name.now in
    ap (λ (h : Held). same h.name.items N) (get_or_default c.args.files.now c.loop-i.i d x less ∙ sym c.index-files-i.is)
    ∙ ap (λ l. same l N) (sym c.as_slice.ensures.value) ∙ same_true c.as_slice.result.now N c.if-eq.ensures

pub loop-i-preserved : goal.loop-i-preserved
loop-i-preserved c =
    let x = c.index-files-i.result in
    let N = c.args.name.now in
    misses_more c.args.files.now N c.loop-i.i x c.loop-i-test.true c.index-files-i.is c.loop-i.invariant
    (ap (λ l. same l N) (sym c.as_slice.ensures.value) ∙ same_false c.as_slice.result.now N c.if-eq.ensures)
