use Rattle.app_faults.proofs.Ends.{ended}
use Rattle.lugcurrant.proofs.caring.run_log.Goals as goal

pub returns : goal.returns
returns g c = ended _ c.log.result c.args.subject c.args.name.now c.finish.result _ _ c.log.ensures.form c.finish.ensures
