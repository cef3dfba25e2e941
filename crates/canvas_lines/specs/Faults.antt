-- What is read, and how a fault is told.
use Rattle.std.specs.Prelude.{◌≡◌, ℕ, List, [], ◌∷◌, ◌++◌, codes, Option}
use Rattle.std.specs.Fmt.{decimal}
use Rattle.std.specs.Io.KnownBytes.{Consumes}
use Rattle.canvas_lines.specs.declared.fault.Fault.{Fault}
use Rattle.canvas_lines.specs.declared.fault.Fault.TheVariants.{BadLine, Memory, Stream}

-- 2 for a bad line, 3 for want of memory, 4 for a failed read or write
abbrev pub IsFaultStatus : Fault → ℕ → Type 0
IsFaultStatus (BadLine n) status = status ≡ 2
IsFaultStatus Memory status = status ≡ 3
IsFaultStatus Stream status = status ≡ 4

-- the text of a fault
abbrev pub fault_text : Fault → List ℕ
fault_text (BadLine n) = codes "line " ++ decimal n ++ codes ": cannot read"
fault_text Memory = codes "out of memory"
fault_text Stream = codes "read or write failed"

-- a fault is told by its text in a line of its own
abbrev pub fault_line : Fault → List ℕ
fault_line fault = fault_text fault ++ 10 ∷ []

-- the fault is no bad line
abbrev pub IsNoBadLine : Fault → Type 0
IsNoBadLine (BadLine n) = ⊥
IsNoBadLine Memory = Unit {0}
IsNoBadLine Stream = Unit {0}

-- the text grew by what was taken from the reader
abbrev pub HasRead : Option (List ℕ) → Option (List ℕ) → List ℕ → List ℕ → Type 0
HasRead read left text after = (more : List ℕ) × Consumes read left more × (after ≡ text ++ more)
