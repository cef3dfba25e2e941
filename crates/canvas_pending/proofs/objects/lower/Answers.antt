use Rattle.std.proofs.Common.{◌≡◌, ◌-◌, ◌<◌, Some, None, subst, sym, arith}
use Rattle.canvas_model.specs.Ids.{root}
use Rattle.canvas_doc.proofs.Laid.{ids_differ}
use Rattle.canvas_pending.proofs.Counts.{it_it, object_lowered, object_no_zero}
use Rattle.canvas_pending.proofs.Tests.{not_refused}
use Rattle.canvas_pending.proofs.objects.lower.Goals as goal

pub returns-then-count-eq1-clause-lowered : goal.returns-then-count-eq1-clause-lowered
returns-then-count-eq1-clause-lowered g c =
    object_lowered c.args.id (ids_differ c.args.id root c.if-eq.ensures) c.args.objects.now c.remove.new.self None c.remove.ensures.updates c.count-count.result c.count-count.ensures c.if-count-eq1.true

pub returns-then-count-eq1-clause-no_zero : goal.returns-then-count-eq1-clause-no_zero
returns-then-count-eq1-clause-no_zero g c =
    object_no_zero c.args.id (ids_differ c.args.id root c.if-eq.ensures) c.args.objects.now c.remove.new.self None c.remove.ensures.updates (λ e. absurd (cc)) c.requires.no_zero

pub returns-clause-lowered : goal.returns-clause-lowered
returns-clause-lowered g c =
    let apart = ids_differ c.args.id root c.if-eq.ensures in
    let some : 0 < c.count-count.result = subst (λ n. 0 < n) (sym c.count-count.ensures) (c.requires.counted c.args.id (it_it c.args.id apart)) in
    object_lowered c.args.id apart c.args.objects.now c.insert.new.self (Some (c.count-count.result - 1)) (not_refused c.insert.result c.if-is_err.ensures.value c.insert.ensures.updates) c.count-count.result c.count-count.ensures
    (omega arith)

pub returns-clause-no_zero : goal.returns-clause-no_zero
returns-clause-no_zero g c =
    let apart = ids_differ c.args.id root c.if-eq.ensures in
    let some : 0 < c.count-count.result = subst (λ n. 0 < n) (sym c.count-count.ensures) (c.requires.counted c.args.id (it_it c.args.id apart)) in
    object_no_zero c.args.id apart c.args.objects.now c.insert.new.self (Some (c.count-count.result - 1)) (not_refused c.insert.result c.if-is_err.ensures.value c.insert.ensures.updates)
    (λ e. let none_left : c.count-count.result - 1 ≡ 0 = cc in let more = c.if-count-eq1.false in absurd (omega arith)) c.requires.no_zero
