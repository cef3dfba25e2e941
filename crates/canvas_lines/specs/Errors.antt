-- Why a line, or a part of one, isn't read.
use Rattle.std.specs.Prelude.{◌≡◌, ℕ, List}
use Rattle.canvas_model.specs.declared.ObjId.{ObjId}
use Rattle.canvas_model.specs.Words.{Lacks}
use Rattle.canvas_lines.specs.Spelling.{SpellsIdFirst}
use Rattle.canvas_lines.specs.declared.error.LineError.{LineError}
use Rattle.canvas_lines.specs.declared.error.LineError.TheVariants.{Unreadable, Memory}

-- nothing is spelled so; or memory was refused, which says nothing of the text
abbrev pub IsLineError : {X : Type 0} → (X → Type 0) → LineError → Type 0
IsLineError {X} IsSpelled Unreadable = (x : X) → IsSpelled x → ⊥
IsLineError {X} IsSpelled Memory = Unit {0}

-- nothing is spelled so
abbrev pub IsUnspelled : {X : Type 0} → (X → Type 0) → LineError → Type 0
IsUnspelled {X} IsSpelled e = (e ≡ Unreadable) × ((x : X) → IsSpelled x → ⊥)

-- the text has no blank
abbrev pub IsUncut : List ℕ → LineError → Type 0
IsUncut text e = (e ≡ Unreadable) × Lacks 32 text

-- the text doesn't begin with an id and a blank
abbrev pub IsIdless : List ℕ → LineError → Type 0
IsIdless text e = (e ≡ Unreadable) × ((id : ObjId) (rest : List ℕ) → SpellsIdFirst text id rest → ⊥)
