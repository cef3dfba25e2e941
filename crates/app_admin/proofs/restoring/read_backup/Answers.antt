use Rattle.std.proofs.Common.{List, None, subst}
use Rattle.canvas_shelf.specs.Disk.{Segment, seen}
use Rattle.canvas_journal.specs.Found.{Finds, IsState}
use Rattle.app_admin.specs.Losing.{TellsLoss}
use Rattle.app_admin.proofs.restoring.read_backup.Goals as goal

pub returns-in-Ok-clause-found : goal.returns-in-Ok-clause-found
returns-in-Ok-clause-found g c = λ h.
    let s = c.in_ok-shelf.ensures.holds h in subst (λ (d : List Segment). Finds (seen d) (IsState c.in-Ok.found)) s.1 (c.in-Ok.ensures.found s.0)

pub returns-in-Ok-clause-whole : goal.returns-in-Ok-clause-whole
returns-in-Ok-clause-whole g c = λ h unaccepted ok.
    let s = c.in_ok-shelf.ensures.holds h in
    let trace = c.in_ok-trace.trace in
    (trace, subst (λ (d : List Segment). TellsLoss d trace None) s.1 (c.in-Ok.ensures.whole s.0 unaccepted ok))
