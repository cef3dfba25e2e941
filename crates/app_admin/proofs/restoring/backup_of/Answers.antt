use Rattle.std.proofs.Common.{List, IsTrue, None, sym, subst}
use Rattle.canvas_shelf.specs.Disk.{Segment}
use Rattle.app_admin.specs.Losing.{TellsLoss}
use Rattle.app_admin.proofs.restoring.backup_of.Goals as goal

pub returns-in-Ok-clause-whole : goal.returns-in-Ok-clause-whole
returns-in-Ok-clause-whole g c = λ h unaccepted ok.
    subst (λ (d : List Segment). TellsLoss d c.args.trace None) (c.look.ensures.disk h).0 (c.in-Ok.ensures (subst IsTrue (sym c.look.ensures.honest) h))
