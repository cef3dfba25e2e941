use Rattle.std.proofs.Common.{inl, subst, sym}
use Rattle.app_storage.specs.Faults.{IsOpeningFault}
use Rattle.app_storage.proofs.Opens.{opens_etcd}
use Rattle.app_storage.proofs.owning.take_over.Goals as goal

pub returns-in-Err : goal.returns-in-Err
returns-in-Err g c = inl (λ workers. subst (IsOpeningFault workers) (sym c.fault_of_etcd.ensures) (opens_etcd workers _ _))
