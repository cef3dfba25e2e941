use Rattle.app_faults.proofs.Ends.{ended}
use Rattle.lugcurrant.proofs.caring.run_rows.Goals as goal

pub returns : goal.returns
returns g c = ended _ c.show_rows.result c.args.subject c.args.name.now c.finish.result _ _ c.show_rows.ensures.form c.finish.ensures
