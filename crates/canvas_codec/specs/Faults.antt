-- Why a JSON tree is no value.
use Rattle.std.specs.Prelude.{◌≡◌, Bool, false, Option, Some, None}
use Rattle.serde_json.specs.Data.{Data}
use Rattle.canvas_codec.specs.Codec.{HasShape, IsOutOfRange}
use Rattle.canvas_codec.specs.Json.{value_form}
use Rattle.canvas_codec.specs.declared.json_fault.JsonFault.{JsonFault}
use Rattle.canvas_codec.specs.declared.json_fault.JsonFault.TheVariants.{NotAValue, OutOfRange, Memory}

-- each fault, by what it says of the JSON tree: want of memory can be met at any
abbrev pub IsJsonFault : Data → JsonFault → Type 0
IsJsonFault d NotAValue = HasShape value_form d → ⊥
IsJsonFault d OutOfRange = IsOutOfRange value_form d
IsJsonFault d Memory = Unit {0}

-- memory was refused
abbrev pub IsMemory : JsonFault → Type 0
IsMemory f = f ≡ Memory

-- the same, told from what was read
abbrev pub Refuses : {X : Type 0} → Option (X × Bool) → JsonFault → Type 0
Refuses r NotAValue = r ≡ None
Refuses {X} r OutOfRange = (x : X) × (r ≡ Some (x, false))
Refuses r Memory = Unit {0}

-- inside a JSON tree no fault tells a number's range
abbrev pub RefusesShape : {X : Type 0} → Option X → JsonFault → Type 0
RefusesShape r NotAValue = r ≡ None
RefusesShape r OutOfRange = ⊥
RefusesShape r Memory = Unit {0}
