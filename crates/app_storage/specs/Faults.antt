-- What may end a server.
use Rattle.std.specs.Prelude.{◌≡◌, ◌≤◌, ◌<◌, ◌⊎◌, ℕ, List, Option, IsSome}
use Rattle.etcd_store.specs.declared.error.StoreError.{StoreError}
use Rattle.app_faults.specs.Told.{IsServerEnd}
use Rattle.app_faults.specs.declared.fault.Fault.{Fault}
use Rattle.app_faults.specs.declared.fault.Fault.TheVariants.{NotAnOrigin, NotAHost, NotAUrl, NotAName, WorkerCount, NoPage, StopFile, PortInUse, PortDenied, NoPort, InUse, Denied, AboveDenied, NoDescriptor, NoRoom, Device, Taken, NoSegment, Gone, Lost, NotKept, Identity, ChangedIdentity, Busy, Damaged, TooLarge, NoSpace, NoStore, BadLine, NoDocument, Stream, NoThread, NoKick, JournalFailed, StoreFailed, LeaseEnded, Stopped, Memory}
use Rattle.app_faults.specs.declared.subject.Subject.{Subject}

-- what a fault of looking at a folder is to a server of it: whatever only a command tells is a folder that can't be read
abbrev pub fault_of_looking : Fault → Fault
fault_of_looking InUse = InUse
fault_of_looking Denied = Denied
fault_of_looking AboveDenied = AboveDenied
fault_of_looking NoDescriptor = NoDescriptor
fault_of_looking NoRoom = NoRoom
fault_of_looking Identity = Identity
fault_of_looking ChangedIdentity = ChangedIdentity
fault_of_looking (Damaged segment offset) = Damaged segment offset
fault_of_looking TooLarge = TooLarge
fault_of_looking (NoSpace missing) = NoSpace missing
fault_of_looking Memory = Memory
fault_of_looking fault = Device

-- why a server doesn't get its page
abbrev pub IsPageFault : Fault → Type 0
IsPageFault fault = (fault ≡ NoPage) ⊎ (fault ≡ Memory)

-- the fault is one of the port
abbrev pub IsPortFault : Fault → Type 0
IsPortFault fault = (fault ≡ PortInUse) ⊎ (fault ≡ PortDenied) ⊎ (fault ≡ NoPort)

-- so many workers can serve
abbrev pub IsWorkerCount : ℕ → Type 0
IsWorkerCount workers = (0 < workers) × (workers ≤ 31)

-- why a document isn't opened for so many workers
abbrev pub IsOpeningFault : ℕ → Fault → Type 0
IsOpeningFault workers NotAnOrigin = ⊥
IsOpeningFault workers NotAHost = ⊥
IsOpeningFault workers NotAUrl = ⊥
IsOpeningFault workers NotAName = ⊥
IsOpeningFault workers WorkerCount = IsWorkerCount workers → ⊥
IsOpeningFault workers NoPage = ⊥
IsOpeningFault workers StopFile = ⊥
IsOpeningFault workers PortInUse = ⊥
IsOpeningFault workers PortDenied = ⊥
IsOpeningFault workers NoPort = ⊥
IsOpeningFault workers InUse = Unit {0}
IsOpeningFault workers Denied = Unit {0}
IsOpeningFault workers AboveDenied = Unit {0}
IsOpeningFault workers NoDescriptor = Unit {0}
IsOpeningFault workers NoRoom = Unit {0}
IsOpeningFault workers Device = Unit {0}
IsOpeningFault workers Taken = ⊥
IsOpeningFault workers NoSegment = ⊥
IsOpeningFault workers Gone = ⊥
IsOpeningFault workers (Lost loss) = Unit {0}
IsOpeningFault workers NotKept = Unit {0}
IsOpeningFault workers Identity = Unit {0}
IsOpeningFault workers ChangedIdentity = Unit {0}
IsOpeningFault workers Busy = ⊥
IsOpeningFault workers (Damaged segment offset) = Unit {0}
IsOpeningFault workers TooLarge = Unit {0}
IsOpeningFault workers (NoSpace missing) = Unit {0}
IsOpeningFault workers (NoStore why) = Unit {0}
IsOpeningFault workers (BadLine line fault) = ⊥
IsOpeningFault workers NoDocument = ⊥
IsOpeningFault workers Stream = ⊥
IsOpeningFault workers NoThread = ⊥
IsOpeningFault workers (NoKick why) = ⊥
IsOpeningFault workers (JournalFailed call) = ⊥
IsOpeningFault workers (StoreFailed call why) = ⊥
IsOpeningFault workers LeaseEnded = ⊥
IsOpeningFault workers Stopped = ⊥
IsOpeningFault workers Memory = Unit {0}

-- why a document in an etcd has no identity
abbrev pub IsNamingFault : Fault → Type 0
IsNamingFault fault = (fault ≡ Identity) ⊎ ((why : StoreError) × (fault ≡ NoStore why)) ⊎ (fault ≡ Memory)

-- why a folder isn't opened that may lose something
abbrev pub IsLossFault : Fault → Type 0
IsLossFault fault = (workers : ℕ) → IsOpeningFault workers fault

-- why a server doesn't get its port and its document for so many workers
abbrev pub IsPreparingFault : ℕ → Fault → Type 0
IsPreparingFault workers fault = IsPortFault fault ⊎ IsOpeningFault workers fault

-- the journal failed, in this call or in one that isn't known, or the document's lease has ended
abbrev pub IsJournalFault : Fault → Type 0
IsJournalFault (JournalFailed call) = Unit {0}
IsJournalFault (StoreFailed call why) = Unit {0}
IsJournalFault LeaseEnded = Unit {0}
IsJournalFault fault = ⊥

-- why a thread that is needed isn't there
abbrev pub IsThreadFault : Fault → Type 0
IsThreadFault fault = (fault ≡ NoThread) ⊎ (fault ≡ Memory)

-- why a server that has its document doesn't go on
abbrev pub IsRunningFault : Fault → Type 0
IsRunningFault fault = (fault ≡ NoThread) ⊎ IsJournalFault fault ⊎ (fault ≡ Memory)

-- a file that ends the server is named, if one is: it is there too early, or it has come
abbrev pub IsStopFault : {A : Type 0} → Option A → Fault → Type 0
IsStopFault file fault = IsSome file × ((fault ≡ StopFile) ⊎ (fault ≡ Stopped))

-- what may end a server for so many workers, which this file ends, if one
abbrev pub MayEndServer : {A : Type 0} → ℕ → Option A → Fault → Type 0
MayEndServer workers file fault = IsPageFault fault ⊎ IsPreparingFault workers fault ⊎ IsRunningFault fault ⊎ IsStopFault file fault

-- a server of this folder or document, at this port, for so many workers, which this file ends, if one, was ended by a fault, which was told
abbrev pub IsServedUntilFault : {A : Type 0} → Subject → List ℕ → ℕ → ℕ → Option A → ℕ → Option (List ℕ) → Option (List ℕ) → Type 0
IsServedUntilFault subject name port workers file status faults told = (fault : Fault) × MayEndServer workers file fault × IsServerEnd fault subject name port status faults told
