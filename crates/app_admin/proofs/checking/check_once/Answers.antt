use Rattle.std.proofs.Common.{Bool, IsTrue, List, subst, sym}
use Rattle.canvas_journal.proofs.Results.{ok_map}
use Rattle.canvas_shelf.specs.Disk.{Segment}
use Rattle.app_admin.specs.Checks.{WritesCheckIf, WritesCheckIfOf, WritesNoLossIfOf}
use Rattle.app_admin.proofs.Checked.{with_loss, with_loss_of}
use Rattle.app_admin.proofs.checking.check_once.Goals as goal

pub returns-in-Ok-clause-found : goal.returns-in-Ok-clause-found
returns-in-Ok-clause-found g c = λ h.
    let old = g.W.Write.contents c.args.output.now in
    let between = g.W.Write.contents c.check_shelf.new.output in
    let new = g.W.Write.contents c.check_loss.new.output in
    let summed = g.H.Home.summed c.look.new.self in
    let s = c.in_ok-shelf.ensures.holds h in
    let still = subst IsTrue (sym c.check_shelf.ensures.honest) s.0 in
    ok_map c.check_loss.result _ _ (c.check_loss.ensures.found still)
    (λ last.
    let there = subst (λ (d : List Segment). WritesNoLossIfOf summed d between new) (c.check_shelf.ensures.disk s.0).0 last in
    let whole = with_loss_of summed _ old between new (c.in-Ok.ensures.found s.0) there in
    subst (λ (b : Bool). WritesCheckIfOf b (g.H.Home.disk c.args.home.now) old new) c.look.ensures.summed (subst (λ (d : List Segment). WritesCheckIfOf summed d old new) s.1 whole))

pub returns-in-Ok-clause-form : goal.returns-in-Ok-clause-form
returns-in-Ok-clause-form g c =
    let old = g.W.Write.contents c.args.output.now in
    let between = g.W.Write.contents c.check_shelf.new.output in
    let new = g.W.Write.contents c.check_loss.new.output in
    let summed = g.H.Home.summed c.look.new.self in
    ok_map c.check_loss.result _ _ c.check_loss.ensures.form
    (λ last. subst (λ (b : Bool). WritesCheckIf b old new) c.look.ensures.summed (with_loss summed old between new c.in-Ok.ensures.form last))
