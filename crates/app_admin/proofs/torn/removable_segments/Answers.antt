use Rattle.std.proofs.Common.{◌≡◌, IsTrue, List, Option, Some, None, inl, inr, subst, sym}
use Rattle.canvas_shelf.specs.Disk.{Segment}
use Rattle.disk_integrity.specs.declared.loss.Loss.{Loss}
use Rattle.app_admin.specs.Losing.{TellsLoss}
use Rattle.app_admin.proofs.torn.removable_segments.Goals as goal

pub returns-in-None-clause-torn : goal.returns-in-None-clause-torn
returns-in-None-clause-torn g c = λ h s finds.
    let still = subst IsTrue (sym c.torn_segments.ensures.honest) h in
    let told = subst (λ (o : Option Loss). TellsLoss (g.S.Shelf.disk c.torn_segments.new.shelf) c.args.trace o) c.in-None.is (c.in_ok-find_loss.ensures.found still) in
    inl (c.in_ok-torn.ensures.torn h s finds, inr (subst (λ (d : List Segment). TellsLoss d c.args.trace None) (c.torn_segments.ensures.disk h).0 told))

pub returns-in-Some-clause-torn : goal.returns-in-Some-clause-torn
returns-in-Some-clause-torn g c = λ h s finds.
    let still = subst IsTrue (sym c.torn_segments.ensures.honest) h in
    let told = subst (λ (o : Option Loss). TellsLoss (g.S.Shelf.disk c.torn_segments.new.shelf) c.args.trace o) c.in-Some.is (c.in_ok-find_loss.ensures.found still) in
    inr (c.new.ensures.items, c.in-Some.field-0, subst (λ (d : List Segment). TellsLoss d c.args.trace (Some c.in-Some.field-0)) (c.torn_segments.ensures.disk h).0 told)
