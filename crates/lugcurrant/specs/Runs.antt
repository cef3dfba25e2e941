-- What the program did, by what its words ask for.
use Rattle.std.specs.Prelude.{◌≡◌, ◌⊎◌, ℕ, List, [], Option, Some, None, string_bytes}
use Rattle.app_admin.specs.Begun.{WritesBegun, WritesImported}
use Rattle.app_admin.specs.Checks.{WritesCheck, WritesShelf}
use Rattle.app_admin.specs.Logs.{WritesLog}
use Rattle.app_admin.specs.Shown.{WritesRows}
use Rattle.app_admin.specs.declared.writing_rows.Layout.{Layout}
use Rattle.app_faults.specs.Told.{EndsCommand, IsFaultTold}
use Rattle.app_faults.specs.declared.subject.Subject.{Subject}
use Rattle.app_faults.specs.declared.subject.Subject.TheVariants as subject
use Rattle.canvas_lines.specs.Reports.{WritesReport}
use Rattle.app_args.specs.declared.asked.Invocation.{Invocation}
use Rattle.app_args.specs.declared.asked.Invocation.TheVariants.{Serve, Show, Import, Restore, Move, Check, Log, Kick, Edit}
use Rattle.app_args.specs.declared.asked.DocumentPlace.{DocumentPlace}
use Rattle.app_args.specs.declared.asked.DocumentPlace.TheVariants.{Folder, Document}
use Rattle.app_args.specs.declared.error.WordError.{WordError}
use Rattle.app_args.specs.Wrong.{fault_of_word}
use Rattle.app_storage.specs.Faults.{IsServedUntilFault}
use Rattle.lugcurrant.specs.Edits.{PlaysInput}
use Rattle.lugcurrant.specs.Kicks.{WritesTaken}

-- the folder of a document, or its name in an etcd
abbrev pub place_bytes : DocumentPlace → List ℕ
place_bytes (Folder dir) = string_bytes dir
place_bytes (Document address) = string_bytes address.name

-- what the faults of its server are of
abbrev pub served_of : DocumentPlace → Subject
served_of (Folder dir) = subject.ServedFolder
served_of (Document address) = subject.ServedDocument

-- the command did this to the document there, and the status is 0; or a fault ended it, which was told
abbrev pub EndsAt : DocumentPlace → Type 0 → ℕ → (faults told : Option (List ℕ)) → Type 0
EndsAt (Folder dir) did status faults told = EndsCommand did subject.Folder (string_bytes dir) status faults told
EndsAt (Document address) did status faults told = EndsCommand did subject.Document (string_bytes address.name) status faults told

-- the tree of some document was written, or its rows, laid out so
abbrev pub WritesShown : Option Layout → (written after : Option (List ℕ)) → Type 0
WritesShown None written after = WritesReport written after
WritesShown (Some layout) written after = WritesRows layout written after

-- the document there was shown, or a fault was told
abbrev pub Shows : DocumentPlace → Option Layout → ℕ → (written after faults told : Option (List ℕ)) → Type 0
Shows place layout status written after faults told = EndsAt place (WritesShown layout written after) status faults told

-- what is told of the document there that is checked: in a folder also that nothing was lost
abbrev pub WritesChecked : DocumentPlace → (written after : Option (List ℕ)) → Type 0
WritesChecked (Folder dir) written after = WritesCheck written after
WritesChecked (Document address) written after = WritesShelf written after

-- What was asked for was done to its end, and the status is 0; or a fault ended it, which was told. A server is ended by one, or by its file to stop
-- at, and writes no output. Only an import and a client that edits read their input.
abbrev pub CarriesOut : Invocation → ℕ → (read left written after faults told : Option (List ℕ)) → Type 0
CarriesOut (Serve options) status read left written after faults told =
    (left ≡ read) × (after ≡ written) × IsServedUntilFault (served_of options.place) (place_bytes options.place) options.serving.port options.serving.workers options.serving.stop_file status faults told
CarriesOut (Show place layout) status read left written after faults told =
    (left ≡ read) × Shows place layout status written after faults told
CarriesOut (Import place) status read left written after faults told =
    EndsAt place (WritesImported read left written after) status faults told
CarriesOut (Restore backup dir accept_loss) status read left written after faults told =
    (left ≡ read)
    × (EndsCommand (WritesBegun written after) subject.Folder (string_bytes dir) status faults told ⊎ EndsCommand ⊥ subject.Folder (string_bytes backup) status faults told)
CarriesOut (Move dir address is_back) status read left written after faults told =
    (left ≡ read)
    × (EndsCommand (WritesBegun written after) subject.Folder (string_bytes dir) status faults told ⊎ EndsCommand ⊥ subject.Document (string_bytes address.name) status faults told)
CarriesOut (Check place) status read left written after faults told =
    (left ≡ read) × EndsAt place (WritesChecked place written after) status faults told
CarriesOut (Log place) status read left written after faults told =
    (left ≡ read) × EndsAt place (WritesLog written after) status faults told
CarriesOut (Kick file numbers) status read left written after faults told =
    (left ≡ read) × EndsCommand (WritesTaken (string_bytes file) written after) subject.Folder (string_bytes file) status faults told
CarriesOut (Edit port) status read left written after faults told =
    PlaysInput port status read left written after faults told

-- the status of a word that isn't as it has to be, where it was told in a line of its own, or 4
abbrev pub IsWordRefused : WordError → ℕ → (faults told : Option (List ℕ)) → Type 0
IsWordRefused error status faults told = IsFaultTold (fault_of_word error) subject.Folder [] 0 status faults told

-- what some words ask for was done; or they ask for nothing, or for help, and then nothing was read or written, and at most it was told which
-- of them isn't as it has to be
abbrev pub IsCommandRun : ℕ → (read left written after faults told : Option (List ℕ)) → Type 0
IsCommandRun status read left written after faults told =
    ((asked : Invocation) × CarriesOut asked status read left written after faults told)
    ⊎ ((left ≡ read) × (after ≡ written) × ((told ≡ faults) ⊎ ((error : WordError) × IsWordRefused error status faults told)))
