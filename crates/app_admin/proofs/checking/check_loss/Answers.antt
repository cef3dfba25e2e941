use Rattle.std.proofs.Common.{rules, subst}
use Rattle.canvas_journal.proofs.Results.{ok_map}
use Rattle.app_admin.proofs.Checked.{looked_of}
use Rattle.app_admin.specs.Losing.{TellsLoss}
use Rattle.app_admin.proofs.checking.check_loss.Goals as goal

pub returns-clause-found : goal.returns-clause-found
returns-clause-found g c = λ h.
    ok_map c.tell_loss.result _ _ c.tell_loss.ensures.ok
    (λ last. looked_of (g.H.Home.summed c.args.home.now) (g.S.Shelf.disk c.args.shelf.now) _ _ (search rules) last.1
    (c.in_ok-trace.trace, subst (λ loss. TellsLoss (g.S.Shelf.disk c.args.shelf.now) c.in_ok-trace.trace loss) last.0 (c.in_ok-loss.ensures.found h)))
