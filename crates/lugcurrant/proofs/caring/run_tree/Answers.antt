use Rattle.app_faults.proofs.Ends.{ended}
use Rattle.lugcurrant.proofs.caring.run_tree.Goals as goal

pub returns : goal.returns
returns g c = ended _ c.show_tree.result c.args.subject c.args.name.now c.finish.result _ _ c.show_tree.ensures.form c.finish.ensures
