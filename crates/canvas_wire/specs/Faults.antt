-- What bytes are the text of, and why they are refused.
use Rattle.std.specs.Prelude.{◌≡◌, ℕ, List, Some}
use Rattle.std.specs.Str.{IsUtf8}
use Rattle.serde_json.specs.Data.{Data}
use Rattle.serde_json.specs.Read.{read as read_text}
use Rattle.canvas_codec.specs.declared.json_fault.JsonFault.{JsonFault}
use Rattle.canvas_codec.specs.declared.json_fault.JsonFault.TheVariants as value
use Rattle.canvas_wire.specs.declared.fault.WireError.{WireError}
use Rattle.canvas_wire.specs.declared.fault.WireError.TheVariants.{NotJson, NotAMessage, OutOfRange, TooDeep, Memory}

-- the bytes are JSON of this JSON tree
abbrev pub IsJson : List ℕ → Data → Type 0
IsJson bytes d = IsUtf8 bytes × (read_text bytes ≡ Some d)

module _ {X : Type 0} (IsJsonOf : Data → X → Type 0) (IsShallow : X → Type 0) where
  -- the JSON tree is that of this thing, whose values aren't too deep
  abbrev pub Means : Data → X → Type 0
  Means d x = IsJsonOf d x × IsShallow x

  -- the bytes are a text of it
  abbrev pub IsTextOf : List ℕ → X → Type 0
  IsTextOf bytes x = (d : Data) × IsJson bytes d × Means d x

-- which JSON trees have the shape of a thing, but for their whole numbers, and which is that of which thing, its whole numbers in range
module _ {X : Type 0} (IsShaped : Data → Type 0) (IsJsonOf : Data → X → Type 0) where
  -- the JSON tree has the shape, and some whole number is out of range
  abbrev pub IsOut : Data → Type 0
  IsOut d = IsShaped d × ((x : X) → IsJsonOf d x → ⊥)

module _ {X : Type 0} (IsShaped : Data → Type 0) (IsJsonOf : Data → X → Type 0) (IsShallow : X → Type 0) where
  -- why a JSON tree is refused: it has no such shape; it has one, and some whole number is out of range; all but the depth of a value fits; want of
  -- memory can be met at any
  abbrev pub IsJsonFault : Data → WireError → Type 0
  IsJsonFault d NotJson = ⊥
  IsJsonFault d NotAMessage = IsShaped d → ⊥
  IsJsonFault d OutOfRange = IsOut IsShaped IsJsonOf d
  IsJsonFault d TooDeep = (x : X) × IsJsonOf d x × (IsShallow x → ⊥)
  IsJsonFault d Memory = Unit {0}

  -- why bytes are refused: they aren't JSON, or their JSON tree is refused
  abbrev pub IsWireError : List ℕ → WireError → Type 0
  IsWireError bytes NotJson = (d : Data) → IsJson bytes d → ⊥
  IsWireError bytes NotAMessage = (d : Data) × IsJson bytes d × (IsShaped d → ⊥)
  IsWireError bytes OutOfRange = (d : Data) × IsJson bytes d × IsOut IsShaped IsJsonOf d
  IsWireError bytes TooDeep = (d : Data) × (x : X) × IsJson bytes d × IsJsonOf d x × (IsShallow x → ⊥)
  IsWireError bytes Memory = Unit {0}

-- what a fault of the shape is answered as
abbrev pub refusal : JsonFault → WireError
refusal value.NotAValue = NotAMessage
refusal value.OutOfRange = OutOfRange
refusal value.Memory = Memory

-- memory was refused
abbrev pub IsMemory : WireError → Type 0
IsMemory e = e ≡ Memory

-- lists nest too deep
abbrev pub IsTooDeep : WireError → Type 0
IsTooDeep e = e ≡ TooDeep

-- what was read isn't shallow, or memory was refused
abbrev pub IsUnfinished : Type 0 → WireError → Type 0
IsUnfinished IsShallow TooDeep = IsShallow → ⊥
IsUnfinished IsShallow Memory = Unit {0}
IsUnfinished IsShallow NotJson = ⊥
IsUnfinished IsShallow NotAMessage = ⊥
IsUnfinished IsShallow OutOfRange = ⊥

-- the state isn't sound, or it is and a value isn't shallow, or memory was refused
abbrev pub IsUnmade : Type 0 → Type 0 → WireError → Type 0
IsUnmade IsSound IsShallow NotAMessage = IsSound → ⊥
IsUnmade IsSound IsShallow TooDeep = IsSound × (IsShallow → ⊥)
IsUnmade IsSound IsShallow Memory = Unit {0}
IsUnmade IsSound IsShallow NotJson = ⊥
IsUnmade IsSound IsShallow OutOfRange = ⊥

-- the bytes aren't JSON, or memory was refused
abbrev pub IsNotJson : List ℕ → WireError → Type 0
IsNotJson bytes NotJson = (d : Data) → IsJson bytes d → ⊥
IsNotJson bytes NotAMessage = ⊥
IsNotJson bytes OutOfRange = ⊥
IsNotJson bytes TooDeep = ⊥
IsNotJson bytes Memory = Unit {0}
