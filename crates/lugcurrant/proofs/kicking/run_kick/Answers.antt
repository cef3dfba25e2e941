use Rattle.app_faults.proofs.Ends.{ended}
use Rattle.app_faults.specs.declared.subject.Subject.TheVariants.{Folder}
use Rattle.lugcurrant.proofs.kicking.run_kick.Goals as goal

pub returns : goal.returns
returns g c = ended _ c.kick.result Folder c.args.file.now c.finish.result _ _ c.kick.ensures c.finish.ensures
