use Rattle.std.proofs.Common.{◌∙◌, ℕ, List, IsTrue, refl, subst, sym}
use Rattle.canvas_model.specs.State.{State}
use Rattle.canvas_shelf.specs.Disk.{Segment, seen}
use Rattle.canvas_journal.specs.Found.{Finds, IsState}
use Rattle.app_admin.proofs.Left.{found_left}
use Rattle.app_admin.proofs.planting.plant.Goals as goal

pub returns-then-same-clause-crash : goal.returns-then-same-clause-crash
returns-then-same-clause-crash g c honest left image =
    let was = subst IsTrue (sym c.list.ensures.honest) honest in
    let still = subst IsTrue (sym (c.begin.ensures.honest ∙ c.list.ensures.honest)) honest in
    let disk = g.S.Shelf.disk c.look.new.shelf in
    let state = c.args.state.now in
    let found : State = c.in_ok-found.found in
    let same = (c.look.ensures.disk still).0 in
    let is = same ∙ c.in_ok-begin.ensures.disk was in
    let there : Finds (seen disk) (IsState (found, c.in_ok-found.at)) = subst (λ (d : List Segment). Finds (seen d) (IsState (found, c.in_ok-found.at))) (sym same) (c.in_ok-found.ensures.found still) in
    let meant : Finds (seen disk) (IsState (state, c.args.version)) =
    subst (λ (v : ℕ). Finds (seen disk) (IsState (state, v))) c.if-at-version.true
    (subst (λ (s : State). Finds (seen disk) (IsState (s, c.in_ok-found.at))) (c.if-same.ensures.0 refl) there) in
    found_left disk 1 c.deref.result.now (IsState (state, c.args.version)) is meant left image
