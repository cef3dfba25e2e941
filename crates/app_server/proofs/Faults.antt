-- What opens no document is told of one in an etcd as what opens none.
use Rattle.std.proofs.Common.{ℕ, Option}
use Rattle.etcd_store.specs.declared.error.StoreError.{StoreError}
use Rattle.app_faults.specs.Errors.{of_document}
use Rattle.app_faults.specs.declared.fault.Fault.{Fault}
use Rattle.app_faults.specs.declared.fault.Fault.TheVariants.{NotAnOrigin, NotAHost, NotAUrl, NotAName, WorkerCount, NoPage, StopFile, PortInUse, PortDenied, NoPort, InUse, Denied, AboveDenied, NoDescriptor, NoRoom, Device, Taken, NoSegment, Gone, Lost, NotKept, Identity, ChangedIdentity, Busy, Damaged, TooLarge, NoSpace, NoStore, BadLine, NoDocument, Stream, NoThread, NoKick, JournalFailed, StoreFailed, LeaseEnded, Stopped, Memory}
use Rattle.app_storage.specs.Faults.{IsOpeningFault}
use Rattle.app_storage.proofs.Opens.{opens_cause}

pub opens_document : (workers : ℕ) (why : Option StoreError) (fault : Fault) → IsOpeningFault workers fault → IsOpeningFault workers (of_document why fault)
opens_document workers why NotAnOrigin is = is
opens_document workers why NotAHost is = is
opens_document workers why NotAUrl is = is
opens_document workers why NotAName is = is
opens_document workers why WorkerCount is = is
opens_document workers why NoPage is = is
opens_document workers why StopFile is = is
opens_document workers why PortInUse is = is
opens_document workers why PortDenied is = is
opens_document workers why NoPort is = is
opens_document workers why InUse is = is
opens_document workers why Denied is = is
opens_document workers why AboveDenied is = is
opens_document workers why NoDescriptor is = is
opens_document workers why NoRoom is = is
opens_document workers why Device is = opens_cause workers why
opens_document workers why Taken is = is
opens_document workers why NoSegment is = is
opens_document workers why Gone is = is
opens_document workers why (Lost loss) is = is
opens_document workers why NotKept is = is
opens_document workers why Identity is = is
opens_document workers why ChangedIdentity is = tt
opens_document workers why Busy is = is
opens_document workers why (Damaged segment offset) is = is
opens_document workers why TooLarge is = is
opens_document workers why (NoSpace missing) is = is
opens_document workers why (NoStore why_not) is = is
opens_document workers why (BadLine line fault) is = is
opens_document workers why NoDocument is = is
opens_document workers why Stream is = is
opens_document workers why NoThread is = is
opens_document workers why (NoKick why_not) is = is
opens_document workers why (JournalFailed call) is = is
opens_document workers why (StoreFailed call why_not) is = is
opens_document workers why LeaseEnded is = is
opens_document workers why Stopped is = is
opens_document workers why Memory is = is
