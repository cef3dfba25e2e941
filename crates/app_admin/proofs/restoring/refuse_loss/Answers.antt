use Rattle.std.proofs.Common.{subst}
use Rattle.app_admin.specs.Losing.{TellsLoss}
use Rattle.app_admin.proofs.restoring.refuse_loss.Goals as goal

pub returns-in-None : goal.returns-in-None
returns-in-None g c = λ h. subst (TellsLoss (g.S.Shelf.disk c.args.shelf.now) c.args.trace) c.in-None.is (c.in_ok-find_loss.ensures.found h)
