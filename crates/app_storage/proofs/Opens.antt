-- An etcd that doesn't do what it is asked opens no document.
use Rattle.std.proofs.Common.{ℕ, Option, Some, None}
use Rattle.canvas_etcd.specs.declared.error.EtcdError.{EtcdError}
use Rattle.canvas_etcd.specs.declared.error.EtcdError.TheVariants as etcd
use Rattle.etcd_store.specs.declared.error.StoreError.{StoreError}
use Rattle.etcd_store.specs.declared.error.StoreError.TheVariants as store
use Rattle.app_faults.specs.Errors.{fault_of_cause, fault_of_etcd}
use Rattle.app_storage.specs.Faults.{IsOpeningFault}

pub opens_cause : (workers : ℕ) (why : Option StoreError) → IsOpeningFault workers (fault_of_cause why)
opens_cause workers None = tt
opens_cause workers (Some store.Unreachable) = tt
opens_cause workers (Some store.Unanswered) = tt
opens_cause workers (Some store.Refused) = tt
opens_cause workers (Some store.TlsWanted) = tt
opens_cause workers (Some store.NoSpace) = tt
opens_cause workers (Some store.Damaged) = tt
opens_cause workers (Some store.Lost) = tt
opens_cause workers (Some store.Memory) = tt

pub opens_etcd : (workers : ℕ) (why : Option StoreError) (error : EtcdError) → IsOpeningFault workers (fault_of_etcd why error)
opens_etcd workers why etcd.InUse = tt
opens_etcd workers why etcd.Device = opens_cause workers why
opens_etcd workers why etcd.Memory = tt
