-- What a fault is of, as a sentence names it.
use Rattle.std.specs.Prelude.{ℕ, List, [], ◌++◌, codes}
use Rattle.app_faults.specs.declared.subject.Subject.{Subject}
use Rattle.app_faults.specs.declared.subject.Subject.TheVariants.{Folder, ServedFolder, Document, ServedDocument}

-- a folder or a document
abbrev pub subject_text : Subject → List ℕ → List ℕ
subject_text Folder name = codes "the folder " ++ name
subject_text ServedFolder name = codes "the folder " ++ name
subject_text Document name = codes "the document " ++ name
subject_text ServedDocument name = codes "the document " ++ name

-- the document of a folder, or a document
abbrev pub holder_text : Subject → List ℕ → List ℕ
holder_text Folder name = codes "the document in " ++ name
holder_text ServedFolder name = codes "the document in " ++ name
holder_text Document name = codes "the document " ++ name
holder_text ServedDocument name = codes "the document in " ++ name

-- what to do about damage
abbrev pub remedy_text : Subject → List ℕ
remedy_text Folder = codes ": put a backup in its place"
remedy_text ServedFolder = codes ": put a backup in its place"
remedy_text Document = []
remedy_text ServedDocument = codes ": put a backup in its place"

-- what to do about a place that changes
abbrev pub retry_text : Subject → List ℕ
retry_text Folder = codes ": try again while fewer edits are made"
retry_text ServedFolder = codes ": try again while fewer edits are made"
retry_text Document = []
retry_text ServedDocument = []
