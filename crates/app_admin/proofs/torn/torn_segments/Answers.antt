use Rattle.std.proofs.Common.{◌≡◌, ◌∙◌, ℕ, List, Option, IsTrue, ap, subst, sym}
use Rattle.canvas_shelf.specs.Disk.{Segment, numbers, seen}
use Rattle.canvas_journal.specs.Found.{Finds, IsState}
use Rattle.app_admin.specs.Losing.{number_taken}
use Rattle.app_admin.specs.Taken.{TakesFrom, source_of}
use Rattle.app_admin.specs.Torn.{torn_above}
use Rattle.app_admin.proofs.torn.torn_segments.Goals as goal

pub returns-clause-torn : goal.returns-clause-torn
returns-clause-torn g c = λ h s finds.
    let disk = g.S.Shelf.disk c.args.shelf.now in
    let source = source_of c.in_ok-taken.taken in
    let listed = (c.list.ensures.disk h).0 in
    let at_take = subst IsTrue (sym c.list.ensures.honest) h in
    let takes : TakesFrom (seen disk) source =
    subst (λ (d : List Segment). TakesFrom (seen d) source) listed
    (c.in_ok-taken.ensures.taken at_take s (subst (λ (d : List Segment). Finds (seen d) (IsState s)) (sym listed) finds)) in
    let before : c.deref.result.now ≡ numbers disk = c.deref.ensures.value ∙ c.in_ok-listed.ensures.numbers h in
    (source, takes, c.in_ok-torn_above.ensures ∙ ap (λ (t : Option ℕ). torn_above t c.deref.result.now) c.taken_number.ensures ∙ ap (torn_above (number_taken source)) before)
