use Rattle.std.proofs.Common.{Option, subst}
use Rattle.app_admin.specs.Losing.{TellsLoss}
use Rattle.disk_integrity.specs.declared.loss.Loss.{Loss}
use Rattle.disk_integrity.specs.declared.trace.Trace.{Trace}
use Rattle.app_storage.proofs.guarding.guard.Goals as goal

pub returns-in-None-clause-whole : goal.returns-in-None-clause-whole
returns-in-None-clause-whole g c =
    λ h unaccepted. subst (λ (loss : Option Loss). (trace : Option Trace) × TellsLoss (g.S.Shelf.disk c.args.shelf.now) trace loss) c.in-None.is (c.in_ok-loss_in.ensures.found h)
