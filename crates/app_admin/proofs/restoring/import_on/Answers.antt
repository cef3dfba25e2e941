use Rattle.std.proofs.Common.{IsTrue}
use Rattle.canvas_journal.proofs.Results.{ok_map}
use Rattle.app_admin.proofs.Ends.{did_both}
use Rattle.app_admin.proofs.restoring.import_on.Goals as goal

pub returns : goal.returns
returns g c =
    ok_map c.begin_on.result _ _ (did_both c.begin_on.result (IsTrue (g.G.Ground.honest c.args.ground.now)) _ _ c.begin_on.ensures.holds c.begin_on.ensures.line)
    (λ did. ((c.in_ok-state.state, c.in_ok-state.version), c.in_ok-state.ensures, did.0, did.1))
