use Rattle.std.proofs.Common.{ℕ, Bool, IsTrue, List, [], Option, Some, subst, sym}
use Rattle.std.specs.Io.KnownBytes.{Appends}
use Rattle.canvas_journal.proofs.Results.{ok_map2}
use Rattle.canvas_shelf.specs.Disk.{Segment}
use Rattle.app_admin.specs.Checks.{WritesCheckIf, WritesCheckIfOf}
use Rattle.app_admin.proofs.Checked.{given_ok, written_if, written_of}
use Rattle.app_admin.proofs.checking.check.Goals as goal

pub returns-then-is_sure-clause-found : goal.returns-then-is_sure-clause-found
returns-then-is_sure-clause-found g c = λ h.
    let contents = g.W.Write.contents in
    let done = c.check_once-done.result in
    let text = c.check_once-done.new.output.items in
    let old = contents c.args.output.now in
    let new = contents c.told.new.output in
    let summed = g.H.Home.summed c.args.home.now in
    let disk = g.H.Home.disk c.args.home.now in
    let here = g.H.Home.summed c.loop.home in
    ok_map2 c.told.result _ _ _ c.told.ensures.bytes c.told.ensures.done
    (λ bytes is.
    let told = given_ok done is (c.check_once-done.ensures.found (subst IsTrue (sym c.loop.invariant.honest) h)) in
    let begun : WritesCheckIfOf here (g.H.Home.disk c.loop.home) (Some []) (Some text) =
    subst (λ (x : List ℕ). WritesCheckIfOf here (g.H.Home.disk c.loop.home) (Some x) (Some text)) c.new-text.ensures.items told in
    let there : WritesCheckIfOf here disk (Some []) (Some text) = subst (λ (d : List Segment). WritesCheckIfOf here d (Some []) (Some text)) (c.loop.invariant.disk h) begun in
    let check : WritesCheckIfOf summed disk (Some []) (Some text) = subst (λ (b : Bool). WritesCheckIfOf b disk (Some []) (Some text)) c.loop.invariant.summed there in
    let grows : Appends old new text =
    subst (λ (x : Option (List ℕ)). Appends x new text) c.loop.invariant.unwritten
    (subst (λ (x : List ℕ). Appends (contents c.loop.output) new x) c.deref.ensures.value (given_ok done is bytes)) in
    written_of summed disk text old new check grows)

pub returns-then-is_sure-clause-form : goal.returns-then-is_sure-clause-form
returns-then-is_sure-clause-form g c =
    let contents = g.W.Write.contents in
    let done = c.check_once-done.result in
    let text = c.check_once-done.new.output.items in
    let old = contents c.args.output.now in
    let new = contents c.told.new.output in
    let summed = g.H.Home.summed c.args.home.now in
    let here = g.H.Home.summed c.loop.home in
    ok_map2 c.told.result _ _ _ c.told.ensures.bytes c.told.ensures.done
    (λ bytes is.
    let begun : WritesCheckIf here (Some []) (Some text) =
    subst (λ (x : List ℕ). WritesCheckIf here (Some x) (Some text)) c.new-text.ensures.items (given_ok done is c.check_once-done.ensures.form) in
    let check : WritesCheckIf summed (Some []) (Some text) = subst (λ (b : Bool). WritesCheckIf b (Some []) (Some text)) c.loop.invariant.summed begun in
    let grows : Appends old new text =
    subst (λ (x : Option (List ℕ)). Appends x new text) c.loop.invariant.unwritten
    (subst (λ (x : List ℕ). Appends (contents c.loop.output) new x) c.deref.ensures.value (given_ok done is bytes)) in
    written_if summed text old new check grows)
