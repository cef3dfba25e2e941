use Rattle.canvas_journal.proofs.Results.{ok_map}
use Rattle.app_faults.proofs.Ends.{ended}
use Rattle.lugcurrant.proofs.caring.run_import.Goals as goal

pub returns : goal.returns
returns g c =
    ended _ c.import_on.result c.args.subject c.args.name.now c.finish.result _ _ (ok_map c.import_on.result _ _ c.import_on.ensures (λ did. (did.0, did.1, did.3))) c.finish.ensures
