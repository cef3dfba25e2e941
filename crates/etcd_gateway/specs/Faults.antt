-- Why answers can't be used.
use Rattle.std.specs.Prelude.{◌≡◌, ℕ, List, Option, Some, None}
use Rattle.std.specs.Str.{IsUtf8}
use Rattle.serde_json.specs.Data.{Data}
use Rattle.serde_json.specs.Read.{read as read_text}
use Rattle.etcd_gateway.specs.declared.error.GatewayError.{GatewayError}
use Rattle.etcd_gateway.specs.declared.error.GatewayError.TheVariants.{NotHttp, TooLarge, NotJson, NotAnAnswer, Memory}

-- memory was refused
abbrev pub IsOutOfMemory : GatewayError → Type 0
IsOutOfMemory e = e ≡ Memory

-- the bytes are JSON of this tree
abbrev pub IsJsonTextOf : List ℕ → Data → Type 0
IsJsonTextOf bytes d = IsUtf8 bytes × (read_text bytes ≡ Some d)

-- the bytes aren't JSON, or memory was refused
abbrev pub IsNotJsonText : List ℕ → GatewayError → Type 0
IsNotJsonText bytes NotJson = (d : Data) → IsJsonTextOf bytes d → ⊥
IsNotJsonText bytes Memory = Unit {0}
IsNotJsonText bytes NotHttp = ⊥
IsNotJsonText bytes TooLarge = ⊥
IsNotJsonText bytes NotAnAnswer = ⊥

-- nothing is read there, or memory was refused
abbrev pub IsNothingRead : {A : Type 0} → Option A → GatewayError → Type 0
IsNothingRead o NotAnAnswer = o ≡ None
IsNothingRead o Memory = Unit {0}
IsNothingRead o NotHttp = ⊥
IsNothingRead o TooLarge = ⊥
IsNothingRead o NotJson = ⊥

-- the bytes aren't JSON, or in their tree nothing is read, or memory was refused
abbrev pub IsAnswerError : {A : Type 0} → (Data → Option A) → List ℕ → GatewayError → Type 0
IsAnswerError f bytes NotJson = (d : Data) → IsJsonTextOf bytes d → ⊥
IsAnswerError f bytes NotAnAnswer = (d : Data) × IsJsonTextOf bytes d × (f d ≡ None)
IsAnswerError f bytes Memory = Unit {0}
IsAnswerError f bytes NotHttp = ⊥
IsAnswerError f bytes TooLarge = ⊥

-- the bytes are JSON of a tree in which this is read
abbrev pub SpellsInJson : {A : Type 0} → (Data → Option A) → List ℕ → A → Type 0
SpellsInJson f bytes a = (d : Data) × IsJsonTextOf bytes d × (f d ≡ Some a)
