use Rattle.app_faults.proofs.Ends.{ended}
use Rattle.lugcurrant.proofs.caring.run_check.Goals as goal

pub returns : goal.returns
returns g c = ended _ c.check.result c.args.subject c.args.name.now c.finish.result _ _ c.check.ensures.form c.finish.ensures
