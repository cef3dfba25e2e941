-- The program's status for each fault.
use Rattle.std.specs.Prelude.{ℕ, Option, Some, None}
use Rattle.etcd_store.specs.declared.error.StoreError.{StoreError}
use Rattle.etcd_store.specs.declared.error.StoreError.TheVariants as store
use Rattle.app_faults.specs.declared.fault.Fault.{Fault}
use Rattle.app_faults.specs.declared.fault.Fault.TheVariants.{NotAnOrigin, NotAHost, NotAUrl, NotAName, WorkerCount, NoPage, StopFile, PortInUse, PortDenied, NoPort, InUse, Denied, AboveDenied, NoDescriptor, NoRoom, Device, Taken, NoSegment, Gone, Lost, NotKept, Identity, ChangedIdentity, Busy, Damaged, TooLarge, NoSpace, NoStore, BadLine, NoDocument, Stream, NoThread, NoKick, JournalFailed, StoreFailed, LeaseEnded, Stopped, Memory}

-- of an etcd that doesn't do what it is asked: 3 for want of memory, 5 if a person must look at the document, 8 for want of rights, 9 for want of space, 10 if another server owns the document, and 4 for all else
abbrev pub store_status : StoreError → ℕ
store_status store.Unreachable = 4
store_status store.Unanswered = 4
store_status store.Refused = 8
store_status store.TlsWanted = 4
store_status store.NoSpace = 9
store_status store.Damaged = 5
store_status store.Lost = 10
store_status store.Memory = 3

-- of a journal in an etcd that failed while the server ran: 8 for want of rights, 9 for want of space, 10 if another server owns the document, and 4 for all else, or if the reason isn't known
abbrev pub stored_status : Option StoreError → ℕ
stored_status None = 4
stored_status (Some store.Unreachable) = 4
stored_status (Some store.Unanswered) = 4
stored_status (Some store.Refused) = 8
stored_status (Some store.TlsWanted) = 4
stored_status (Some store.NoSpace) = 9
stored_status (Some store.Damaged) = 4
stored_status (Some store.Lost) = 10
stored_status (Some store.Memory) = 4

-- 0 for a server that was stopped, 2 if the words or the input must change, 3 for want of memory, 5 if a person must look at the document, 6 for a journal without room for it, 7 if another has what is
-- wanted, 8 for want of rights, 9 for want of space, 10 if a server no longer owns its document, and 4 for all else
abbrev pub exit_status_of : Fault → ℕ
exit_status_of NotAnOrigin = 2
exit_status_of NotAHost = 2
exit_status_of NotAUrl = 2
exit_status_of NotAName = 2
exit_status_of WorkerCount = 2
exit_status_of NoPage = 2
exit_status_of StopFile = 2
exit_status_of PortInUse = 7
exit_status_of PortDenied = 8
exit_status_of NoPort = 4
exit_status_of InUse = 7
exit_status_of Denied = 8
exit_status_of AboveDenied = 8
exit_status_of NoDescriptor = 4
exit_status_of NoRoom = 9
exit_status_of Device = 4
exit_status_of Taken = 4
exit_status_of NoSegment = 4
exit_status_of Gone = 5
exit_status_of (Lost loss) = 5
exit_status_of NotKept = 4
exit_status_of Identity = 5
exit_status_of ChangedIdentity = 5
exit_status_of Busy = 4
exit_status_of (Damaged segment offset) = 5
exit_status_of TooLarge = 6
exit_status_of (NoSpace missing) = 9
exit_status_of (NoStore why) = store_status why
exit_status_of (BadLine line fault) = 2
exit_status_of NoDocument = 2
exit_status_of Stream = 4
exit_status_of NoThread = 4
exit_status_of (NoKick why) = 4
exit_status_of (JournalFailed call) = 4
exit_status_of (StoreFailed call why) = stored_status why
exit_status_of LeaseEnded = 10
exit_status_of Stopped = 0
exit_status_of Memory = 3
