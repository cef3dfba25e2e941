-- Which fault an error of another crate is.
use Rattle.std.specs.Prelude.{Option, Some, None}
use Rattle.canvas_etcd.specs.declared.error.EtcdError.{EtcdError}
use Rattle.canvas_etcd.specs.declared.error.EtcdError.TheVariants as etcd
use Rattle.canvas_folder.specs.declared.error.FolderError.{FolderError}
use Rattle.canvas_folder.specs.declared.error.FolderError.TheVariants as folder
use Rattle.app_identity.specs.declared.error.IdentityError.{IdentityError}
use Rattle.app_identity.specs.declared.error.IdentityError.TheVariants as named
use Rattle.canvas_journal.specs.declared.fault.OpenError.{OpenError}
use Rattle.canvas_journal.specs.declared.fault.OpenError.TheVariants as opening
use Rattle.canvas_lines.specs.declared.fault.Fault as lines
use Rattle.canvas_lines.specs.declared.fault.Fault.TheVariants as line
use Rattle.canvas_shelf.specs.declared.records.RecordError.{RecordError}
use Rattle.canvas_shelf.specs.declared.records.RecordError.TheVariants as kept
use Rattle.canvas_shelf.specs.declared.shelf.CreateError.{CreateError}
use Rattle.canvas_shelf.specs.declared.shelf.CreateError.TheVariants as create
use Rattle.canvas_shelf.specs.declared.shelf.ShelfError.{ShelfError}
use Rattle.canvas_shelf.specs.declared.shelf.ShelfError.TheVariants as shelf
use Rattle.etcd_store.specs.declared.error.StoreError.{StoreError}
use Rattle.etcd_store.specs.declared.error.StoreError.TheVariants as store
use Rattle.app_faults.specs.declared.fault.Fault.{Fault}
use Rattle.app_faults.specs.declared.fault.Fault.TheVariants.{InUse, Denied, AboveDenied, NoDescriptor, NoRoom, Device, Identity, ChangedIdentity, Damaged, TooLarge, NoStore, BadLine, Stream, Memory}
use Rattle.app_faults.specs.declared.row_fault.RowFault.TheVariants.{NotARow}

-- the fault that a text without a record is
abbrev pub fault_of_record : RecordError → Fault
fault_of_record kept.TooLong = TooLarge
fault_of_record kept.Memory = Memory

-- the fault that a shelf is that isn't read
abbrev pub fault_of_shelf : ShelfError → Fault
fault_of_shelf shelf.Device = Device
fault_of_shelf shelf.Memory = Memory

-- the fault that a segment is that isn't made
abbrev pub fault_of_create : CreateError → Fault
fault_of_create create.NotMade = Memory
fault_of_create create.Device = Device

-- the fault that a journal is that isn't read or opened
abbrev pub fault_of_open_error : OpenError → Fault
fault_of_open_error opening.Device = Device
fault_of_open_error (opening.Damaged segment offset) = Damaged segment offset
fault_of_open_error opening.TooLarge = TooLarge
fault_of_open_error opening.Memory = Memory

-- the fault that a folder is that isn't opened
abbrev pub fault_of_folder_error : FolderError → Fault
fault_of_folder_error folder.InUse = InUse
fault_of_folder_error folder.Denied = Denied
fault_of_folder_error folder.AboveDenied = AboveDenied
fault_of_folder_error folder.NoDescriptor = NoDescriptor
fault_of_folder_error folder.NoSpace = NoRoom
fault_of_folder_error folder.Device = Device
fault_of_folder_error folder.Memory = Memory

-- the fault that a line or a stream is
abbrev pub fault_of_line_fault : lines.Fault → Fault
fault_of_line_fault (line.BadLine n) = BadLine n NotARow
fault_of_line_fault line.Memory = Memory
fault_of_line_fault line.Stream = Stream

-- the fault that a document without an identity is
abbrev pub fault_of_identity : IdentityError → Fault
fault_of_identity named.NotOne = Identity
fault_of_identity named.Changed = ChangedIdentity
fault_of_identity named.Device = Device
fault_of_identity named.Memory = Memory

-- the fault that a call is that the etcd didn't do
abbrev pub fault_of_store : StoreError → Fault
fault_of_store store.Unreachable = NoStore store.Unreachable
fault_of_store store.Unanswered = NoStore store.Unanswered
fault_of_store store.Refused = NoStore store.Refused
fault_of_store store.TlsWanted = NoStore store.TlsWanted
fault_of_store store.NoSpace = NoStore store.NoSpace
fault_of_store store.Damaged = NoStore store.Damaged
fault_of_store store.Lost = NoStore store.Lost
fault_of_store store.Memory = Memory

-- the same, for this reason if one is known
abbrev pub fault_of_cause : Option StoreError → Fault
fault_of_cause None = NoStore store.Unanswered
fault_of_cause (Some error) = fault_of_store error

-- the fault that a document in an etcd is that isn't taken over, whose store failed last for this reason
abbrev pub fault_of_etcd : Option StoreError → EtcdError → Fault
fault_of_etcd why etcd.InUse = InUse
fault_of_etcd why etcd.Device = fault_of_cause why
fault_of_etcd why etcd.Memory = Memory

-- what a folder's fault is of a document in an etcd, whose store failed last for this reason
abbrev pub of_document : Option StoreError → Fault → Fault
of_document why Device = fault_of_cause why
of_document why ChangedIdentity = Identity
of_document why fault = fault
