-- What a run of a script may answer.
use Rattle.std.specs.Prelude.{◌≡◌, ℕ, ◌-◌, List, ◌++◌, length, take}
use Rattle.canvas_model.specs.World.{World, Run, empty}
use Rattle.canvas_lines.specs.Lines.{lines_of}
use Rattle.canvas_script.specs.declared.run.ScriptError.{ScriptError}
use Rattle.canvas_script.specs.declared.run.ScriptError.TheVariants.{BadLine, Memory}
use Rattle.canvas_lines.specs.declared.fault.Fault.{Fault}
use Rattle.canvas_lines.specs.declared.fault.Fault.TheVariants as fault
use Rattle.canvas_script.specs.Script.{Item}
use Rattle.canvas_script.specs.Reading.{InputSays, LinesSay, IsBadScriptLine}
use Rattle.canvas_script.specs.Plays.{Prints, events_of}
use Rattle.canvas_script.specs.Report.{IsWorldReportText}

-- the events that the input asks for lead to this world
abbrev pub IsWorldOf : List ℕ → World → Type 0
IsWorldOf input w = (names : List (List ℕ)) × (items : List Item) × InputSays input names items × Run empty (events_of items) w

-- this is what the items that the input asks for print, and then the report of the world that they lead to; each node has a name
pub record IsPrintedBy (input : List ℕ) (w : World) (printed : List ℕ) : Type 0 where
  pub names : List (List ℕ)
  pub items : List Item
  pub answers : List ℕ
  pub report : List ℕ
  pub says : InputSays input names items
  pub prints : Prints names empty items answers w
  pub reports : IsWorldReportText names w report
  pub named : length names ≡ length w.nodes
  pub is : printed ≡ answers ++ report

-- the text got that
abbrev pub IsWorldReport : List ℕ → World → List ℕ → List ℕ → Type 0
IsWorldReport input w before after = (printed : List ℕ) × IsPrintedBy input w printed × (after ≡ before ++ printed)

-- a bad line is the first that can't be read
abbrev pub IsErrorOf : List ℕ → ScriptError → Type 0
IsErrorOf input (BadLine n) = IsBadScriptLine input n
IsErrorOf input Memory = Unit {0}

-- what the lines before the n-th print
abbrev pub ArePrintedBefore : List ℕ → ℕ → List ℕ → Type 0
ArePrintedBefore input n answers =
    (names : List (List ℕ)) × (items : List Item) × (w : World) × LinesSay (take (n - 1) (lines_of input)) names items × Prints names empty items answers w

-- with a bad line, the text got what the lines before it print; for want of memory, it is what it was
abbrev pub LeavesPrinted : List ℕ → List ℕ → List ℕ → ScriptError → Type 0
LeavesPrinted input before after (BadLine n) = (answers : List ℕ) × ArePrintedBefore input n answers × (after ≡ before ++ answers)
LeavesPrinted input before after Memory = after ≡ before

-- want of memory
abbrev pub IsNoMemory : ScriptError → Type 0
IsNoMemory e = e ≡ Memory

-- the fault that ends a program there
abbrev pub fault_of : ScriptError → Fault
fault_of (BadLine n) = fault.BadLine n
fault_of Memory = fault.Memory
