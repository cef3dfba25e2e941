-- What a run of a log may answer.
use Rattle.std.specs.Prelude.{◌≡◌, ◌⊎◌, ℕ, ◌-◌, List, ◌++◌, length, take, Option, codes}
use Rattle.std.specs.Io.KnownBytes.{Appends, Consumes, IsAtEnd}
use Rattle.canvas_model.specs.State.{State, opening}
use Rattle.canvas_model.specs.Log.{Entry, IsLegal}
use Rattle.canvas_model.specs.World.{World}
use Rattle.canvas_script.specs.declared.run.ScriptError.{ScriptError}
use Rattle.canvas_script.specs.declared.run.ScriptError.TheVariants.{BadLine, Memory}
use Rattle.canvas_script.specs.Reading.{IsWorld, IsBadScriptLine}
use Rattle.canvas_script.specs.Results.{IsPrintedBy, IsWorldOf, ArePrintedBefore}
use Rattle.canvas_lines.specs.declared.fault.Fault.{Fault}
use Rattle.canvas_lines.specs.declared.fault.Fault.TheVariants as fault
use Rattle.canvas_lines.specs.Lines.{lines_of}
use Rattle.canvas_lines.specs.Spelling.{Requested, InputSpells, LinesSpell, IsBadLine}
use Rattle.canvas_lines.specs.Faults.{IsFaultStatus, fault_line}
use Rattle.canvas_scene.specs.Runs.{AnswersEachRequest, IsFold, MakesEntries}
use Rattle.canvas_scene.specs.Report.{version_line, object_lines}

-- the input stands for requests that make these entries
abbrev pub IsLogOf : List ℕ → List Entry → Type 0
IsLogOf input log =
    (requested : List Requested) × InputSpells input requested × MakesEntries opening 0 requested log

-- the answers to the input's requests, of which these entries are made
abbrev pub AreAnswers : List ℕ → List Entry → List ℕ → Type 0
AreAnswers input log answers =
    (requested : List Requested) × InputSpells input requested × AnswersEachRequest opening 0 requested log answers

-- the answers to the requests of the lines before the n-th, of which a legal log is made
abbrev pub AreAnswersBefore : List ℕ → ℕ → List ℕ → Type 0
AreAnswersBefore input n answers =
    (requested : List Requested) × (log : List Entry) × LinesSpell (take (n - 1) (lines_of input)) requested
    × IsLegal opening log × AnswersEachRequest opening 0 requested log answers

-- the text got one answer for each request, then the version and the objects of the document
pub record IsReportOfLog (input : List ℕ) (log : List Entry) (s : State) (before after : List ℕ) : Type 0 where
  pub answers : List ℕ
  pub are_answers : AreAnswers input log answers
  pub added : after ≡ before ++ answers ++ version_line (length log) ++ object_lines s.doc

-- a bad line is the first that can't be read
abbrev pub IsErrorInLog : List ℕ → ScriptError → Type 0
IsErrorInLog input (BadLine n) = IsBadLine input n
IsErrorInLog input Memory = Unit {0}

-- with a bad line, the text got the answers to the requests of the lines before it; for want of
-- memory, it is what it was
abbrev pub LeavesAnswered : List ℕ → List ℕ → List ℕ → ScriptError → Type 0
LeavesAnswered input before after (BadLine n) =
    (answers : List ℕ) × AreAnswersBefore input n answers × (after ≡ before ++ answers)
LeavesAnswered input before after Memory = after ≡ before

-- the text is a log with no bad line, and this is the answers to its requests and the report of the document that its log
-- leads to
pub record IsPrintedByLog (text printed : List ℕ) : Type 0 where
  pub log : List Entry
  pub state : State
  pub answers : List ℕ
  pub is_log : IsLogOf text log
  pub is_fold : IsFold log state
  pub no_bad_line : (n : ℕ) → IsBadLine text n → ⊥
  pub are_answers : AreAnswers text log answers
  pub is : printed ≡ answers ++ version_line (length log) ++ object_lines state.doc

-- the text is a script of a world with no bad line, and this is what its items print and the report of the world that its
-- events lead to
pub record IsPrintedByWorld (text printed : List ℕ) : Type 0 where
  pub world : World
  pub is_world : IsWorld text
  pub is_world_of : IsWorldOf text world
  pub no_bad_line : (n : ℕ) → IsBadScriptLine text n → ⊥
  pub is_printed : IsPrintedBy text world printed

-- this is what the text prints: as a log, or as a script of a world
abbrev pub IsPrinted : List ℕ → List ℕ → Type 0
IsPrinted text printed = IsPrintedByLog text printed ⊎ IsPrintedByWorld text printed

-- this is the text's first bad line, and what the lines before it print: those of a script of a world, or else of a log
abbrev pub IsPrintedBefore : List ℕ → ℕ → List ℕ → Type 0
IsPrintedBefore text n printed =
    ((IsWorld text → ⊥) × IsBadLine text n × AreAnswersBefore text n printed) ⊎ (IsWorld text × IsBadScriptLine text n × ArePrintedBefore text n printed)

-- what the text prints was added
abbrev pub IsTextPlayed : List ℕ → List ℕ → List ℕ → Type 0
IsTextPlayed text before after = (printed : List ℕ) × IsPrinted text printed × (after ≡ before ++ printed)

-- with a bad line, what the lines before it print was added; for want of memory, nothing
abbrev pub IsTextLeft : List ℕ → List ℕ → List ℕ → ScriptError → Type 0
IsTextLeft text before after (BadLine n) = (printed : List ℕ) × IsPrintedBefore text n printed × (after ≡ before ++ printed)
IsTextLeft text before after Memory = after ≡ before

-- the whole input was read and has no bad line; what it prints was written
pub record IsPlayed (read left written after : Option (List ℕ)) : Type 0 where
  pub text : List ℕ
  pub printed : List ℕ
  pub is_read : Consumes read left text
  pub at_end : IsAtEnd left
  pub is_printed : IsPrinted text printed
  pub is_written : Appends written after printed

-- the whole input was read, and this is its first bad line; what the lines before it print was written
pub record IsCutAt (read left written after : Option (List ℕ)) (n : ℕ) : Type 0 where
  pub text : List ℕ
  pub printed : List ℕ
  pub is_read : Consumes read left text
  pub at_end : IsAtEnd left
  pub is_printed : IsPrintedBefore text n printed
  pub is_written : Appends written after printed

-- a fault that is a bad line is the input's first
abbrev pub IsCutBy : (read left written after : Option (List ℕ)) → Fault → Type 0
IsCutBy read left written after (fault.BadLine n) = IsCutAt read left written after n
IsCutBy read left written after fault.Memory = Unit {0}
IsCutBy read left written after fault.Stream = Unit {0}

-- the input has a bad line, what the lines before it print was written, and the line was told
abbrev pub IsStopped : (read left written after faults told : Option (List ℕ)) → Type 0
IsStopped read left written after faults told =
    (n : ℕ) × IsCutAt read left written after n × Appends faults told (fault_line (fault.BadLine n))

-- 0 for a whole report, 2 for a bad line, 3 for want of memory, 4 for a failed read or write
abbrev pub IsStatus : ℕ → Type 0
IsStatus n = (n ≡ 0) ⊎ (n ≡ 2) ⊎ (n ≡ 3) ⊎ (n ≡ 4)

-- the fault's status where it was told, or 4
abbrev pub IsFaultEnd : Fault → ℕ → Option (List ℕ) → Option (List ℕ) → Type 0
IsFaultEnd f status faults told =
    (IsFaultStatus f status × Appends faults told (fault_line f)) ⊎ (status ≡ 4)

-- what a run did, by its status
pub record IsRun (status : ℕ) (read left written after faults told : Option (List ℕ)) : Type 0 where
  pub known : IsStatus status
  pub played : status ≡ 0 → IsPlayed read left written after
  pub quiet : status ≡ 0 → told ≡ faults
  pub stopped : status ≡ 2 → IsStopped read left written after faults told
  pub memory : status ≡ 3 → Appends faults told (fault_line fault.Memory)

-- 2 where it was told how the program is called, or 4
abbrev pub TellsUsage : ℕ → Option (List ℕ) → Option (List ℕ) → Type 0
TellsUsage status faults told =
    ((status ≡ 2) × Appends faults told (codes "usage: scene < FILE\n")) ⊎ (status ≡ 4)
