-- How a fault is told, and what the program ends with then.
use Rattle.std.specs.Prelude.{◌≡◌, ◌⊎◌, ℕ, List, [], ◌∷◌, ◌++◌, codes, Option}
use Rattle.std.specs.Fmt.{decimal}
use Rattle.std.specs.Io.KnownBytes.{Appends}
use Rattle.app_faults.specs.Causes.{advice_text, because_text, cause_text, loss_text, why_text}
use Rattle.app_faults.specs.Rows.{row_sentence}
use Rattle.app_faults.specs.Statuses.{exit_status_of}
use Rattle.app_faults.specs.Subjects.{holder_text, subject_text, remedy_text, retry_text}
use Rattle.app_faults.specs.declared.fault.Fault.{Fault}
use Rattle.app_faults.specs.declared.fault.Fault.TheVariants.{NotAnOrigin, NotAHost, NotAUrl, NotAName, WorkerCount, NoPage, StopFile, PortInUse, PortDenied, NoPort, InUse, Denied, AboveDenied, NoDescriptor, NoRoom, Device, Taken, NoSegment, Gone, Lost, NotKept, Identity, ChangedIdentity, Busy, Damaged, TooLarge, NoSpace, NoStore, BadLine, NoDocument, Stream, NoThread, NoKick, JournalFailed, StoreFailed, LeaseEnded, Stopped, Memory}
use Rattle.app_faults.specs.declared.kick_fault.KickFault.TheVariants as kick
use Rattle.app_faults.specs.declared.subject.Subject.{Subject}
use Rattle.app_faults.specs.declared.subject.Subject.TheVariants.{Folder, ServedFolder, Document, ServedDocument}

-- the sentence that tells of a fault, of what it is and of which folder or document, at this port
abbrev pub sentence : Fault → Subject → List ℕ → ℕ → List ℕ
sentence NotAnOrigin s name port = codes "--origin wants an origin as browsers send it, https://canvas.example: small letters, and no path or slash behind"
sentence NotAHost s name port = codes "--host wants a host as browsers send it, canvas.example or canvas.example:8443: small letters, and no http:// before it"
sentence NotAUrl s name port = codes "--etcd wants URLs as http://127.0.0.1:2379, with commas between them"
sentence NotAName s name port = codes "--document wants a name of 1 to 64 letters, digits, -, . and _"
sentence WorkerCount s name port = codes "1 to 31 workers can serve at once"
sentence NoPage s name port = codes "--page wants a folder with a file index.html that can be read"
sentence StopFile s name port = codes "--stop-file wants a path at which no file is yet: remove what is there"
sentence PortInUse s name port = codes "port " ++ decimal port ++ codes " is in use: end the other program, or choose another port"
sentence PortDenied s name port = codes "port " ++ decimal port ++ codes " can't be had: choose one above 1023"
sentence NoPort s name port = codes "port " ++ decimal port ++ codes " can't be had: choose one above 1023"
sentence InUse Folder name port = codes "a server has the folder " ++ name
sentence InUse ServedFolder name port = codes "another server has the folder " ++ name
sentence InUse Document name port = codes "another server has the document " ++ name
sentence InUse ServedDocument name port = codes "another server has the document " ++ name
sentence Denied s name port = codes "the folder " ++ name ++ codes " can't be read and written: look at its rights"
sentence AboveDenied s name port = codes "the folder " ++ name ++ codes " can't be reached: look at the rights of the folders above it"
sentence NoDescriptor s name port = codes "no more files can be opened: raise the limit (ulimit -n, or LimitNOFILE of a service)"
sentence NoRoom s name port = codes "the disk has no room to make the folder " ++ name ++ codes ": free some, or choose another disk"
sentence Device Folder name port = codes "the folder " ++ name ++ codes " can't be read and written: look at its rights and at the disk"
sentence Device ServedFolder name port = codes "the folder " ++ name ++ codes " can't be read and written: look at its rights and at the disk"
sentence Device Document name port = codes "the etcd of the document " ++ name ++ codes " doesn't answer: look at its health"
sentence Device ServedDocument name port = codes "the etcd of the document " ++ name ++ codes " doesn't answer: look at its health"
sentence Taken Folder name port = codes "the folder " ++ name ++ codes " holds a document, or what is left of one: name a new folder"
sentence Taken ServedFolder name port = codes "the folder " ++ name ++ codes " holds a document, or what is left of one: name a new folder"
sentence Taken Document name port = codes "the document " ++ name ++ codes " is there already: choose another name"
sentence Taken ServedDocument name port = codes "the document " ++ name ++ codes " is there already: choose another name"
sentence NoSegment Folder name port = codes "the folder " ++ name ++ codes " holds no document"
sentence NoSegment ServedFolder name port = codes "the folder " ++ name ++ codes " holds no document"
sentence NoSegment Document name port = codes "there is no document " ++ name
sentence NoSegment ServedDocument name port = codes "there is no document " ++ name
sentence Gone Folder name port = codes "no segment of the document in " ++ name ++ codes " is left, but its identity or sums are: put a backup in its place"
sentence Gone ServedFolder name port = codes "no segment of the document in " ++ name ++ codes " is left, but its identity or sums are: put a backup in its place"
sentence Gone Document name port = codes "no segment of the document " ++ name ++ codes " is left"
sentence Gone ServedDocument name port = codes "no segment of the document " ++ name ++ codes " is left"
sentence (Lost loss) Folder name port = codes "the folder " ++ name ++ codes " has lost something, lugcurrant check tells what: choose another backup, or restore what is left with --accept-loss"
sentence (Lost loss) ServedFolder name port = codes "opening " ++ name ++ codes " would lose something: " ++ loss_text loss ++ codes "; put a backup in its place, or start with --accept-loss, which first copies the segments to " ++ name ++ codes "/lost"
sentence (Lost loss) Document name port = codes "the document " ++ name ++ codes " has lost something"
sentence (Lost loss) ServedDocument name port = codes "the document " ++ name ++ codes " has lost something"
sentence NotKept s name port = codes "what opening " ++ name ++ codes " loses can't be copied to " ++ name ++ codes "/lost: look at its rights and at the disk, and move away what is there"
sentence Identity Folder name port = codes "the file identity in " ++ name ++ codes " isn't 32 hex digits: put the one of a backup in its place"
sentence Identity ServedFolder name port = codes "the file identity in " ++ name ++ codes " isn't 32 hex digits: put the one of a backup in its place"
sentence Identity Document name port = codes "the identity of the document " ++ name ++ codes " isn't 32 hex digits: put the right one in its place"
sentence Identity ServedDocument name port = codes "the identity of the document " ++ name ++ codes " isn't 32 hex digits: put the right one in its place"
sentence ChangedIdentity Folder name port = codes "the file identity in " ++ name ++ codes " isn't the one that identity.sum names: put the one of a backup in its place, or delete both"
sentence ChangedIdentity ServedFolder name port = codes "the file identity in " ++ name ++ codes " isn't the one that identity.sum names: put the one of a backup in its place, or delete both"
sentence ChangedIdentity Document name port = codes "the identity of the document " ++ name ++ codes " isn't 32 hex digits: put the right one in its place"
sentence ChangedIdentity ServedDocument name port = codes "the identity of the document " ++ name ++ codes " isn't 32 hex digits: put the right one in its place"
sentence Busy s name port = subject_text s name ++ codes " changes while it is checked" ++ retry_text s
sentence (Damaged segment offset) s name port = holder_text s name ++ codes " is damaged in segment " ++ decimal segment ++ codes " at offset " ++ decimal offset ++ remedy_text s
sentence TooLarge s name port = holder_text s name ++ codes " is too large for a checkpoint"
sentence (NoSpace missing) s name port = codes "the disk of " ++ name ++ codes " has no room to open the document: " ++ decimal missing ++ codes " bytes are missing; free them, or move the folder"
sentence (NoStore why) s name port = codes "the etcd of the document " ++ name ++ codes " " ++ why_text why ++ codes ": " ++ advice_text why
sentence (BadLine line fault) s name port = codes "line " ++ decimal line ++ codes ": " ++ row_sentence fault
sentence NoDocument s name port = codes "the rows make no document"
sentence Stream s name port = codes "the input can't be read, or the output written"
sentence NoThread Folder name port = codes "no thread can be made: raise the system's limit"
sentence NoThread Document name port = codes "no thread can be made: raise the system's limit"
sentence NoThread ServedFolder name port = codes "no thread can be made: ask for fewer workers, or raise the system's limit"
sentence NoThread ServedDocument name port = codes "no thread can be made: ask for fewer workers, or raise the system's limit"
sentence (NoKick kick.There) s name port = codes "the file " ++ name ++ codes " is there already, or its .new beside it: wait for the other kick, or remove it"
sentence (NoKick kick.NotWritten) s name port = codes "the file " ++ name ++ codes " can't be written: look at the rights of its folder and at the disk"
sentence (NoKick kick.NotTaken) s name port = codes "no server has taken the file " ++ name ++ codes " in 5 seconds: name the one of its --kick-file"
sentence (JournalFailed call) s name port = codes "the disk of " ++ name ++ codes " failed" ++ cause_text call ++ codes ": what was acknowledged is kept; look at the disk, and start anew"
sentence (StoreFailed call why) s name port = codes "the store of " ++ name ++ codes " failed" ++ cause_text call ++ because_text why ++ codes ": what was acknowledged is kept; another server may have the document by now"
sentence LeaseEnded s name port = codes "the lease of the document " ++ name ++ codes " has ended: another server may have it by now"
sentence Stopped s name port = []
sentence Memory s name port = codes "out of memory"

-- the fault's status, if it was told by its sentence in a line of its own; or 4, as of a server's stop, which isn't told
abbrev pub IsFaultTold : Fault → Subject → List ℕ → ℕ → ℕ → Option (List ℕ) → Option (List ℕ) → Type 0
IsFaultTold fault subject name port status faults told =
    ((fault ≡ Stopped → ⊥) × (status ≡ exit_status_of fault) × Appends faults told (sentence fault subject name port ++ 10 ∷ [])) ⊎ (status ≡ 4)

-- a server that was stopped has the status 0, and nothing was told; else its fault was told
abbrev pub IsServerEnd : Fault → Subject → List ℕ → ℕ → ℕ → Option (List ℕ) → Option (List ℕ) → Type 0
IsServerEnd fault subject name port status faults told =
    ((fault ≡ Stopped) × (status ≡ 0) × (told ≡ faults))
    ⊎ ((fault ≡ Stopped → ⊥) × IsFaultTold fault subject name port status faults told)

-- the command did this to that folder or document, and its status is 0; or a fault ended it, which was told
abbrev pub EndsCommand : Type 0 → Subject → List ℕ → ℕ → Option (List ℕ) → Option (List ℕ) → Type 0
EndsCommand did subject name status faults told = ((status ≡ 0) × did) ⊎ ((fault : Fault) × IsFaultTold fault subject name 0 status faults told)
