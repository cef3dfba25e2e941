-- Why a call of bytes and numbers does nothing.
use Rattle.std.specs.Prelude.{◌≡◌, ℕ, List, Some, None}
use Rattle.serde_json.specs.Data.{Data}
use Rattle.canvas_model.specs.declared.ObjId.{ObjId}
use Rattle.canvas_model.specs.declared.Kind.{Kind}
use Rattle.canvas_model.specs.Value.{Value, IsShallow}
use Rattle.canvas_model.specs.Client.{Client}
use Rattle.canvas_model.specs.Local.{Create, Set, Clear, Target}
use Rattle.canvas_codec.specs.Codec.{HasShape, IsOutOfRange, StandsFor}
use Rattle.canvas_codec.specs.Json.{value_form}
use Rattle.canvas_value.specs.Names.{IsName}
use Rattle.canvas_value.specs.NameErrors.{IsNameError}
use Rattle.canvas_client.specs.Asked.{IsRefusal, refusal}
use Rattle.canvas_wire.specs.Faults.{IsJson}
use Rattle.canvas_embed.specs.Kinds.{kind_of_number}
use Rattle.canvas_embed.specs.Values.{IsValueText}
use Rattle.canvas_embed.specs.declared.fault.ValueError.{ValueError}
use Rattle.canvas_embed.specs.declared.fault.ValueError.TheVariants as value
use Rattle.canvas_embed.specs.declared.fault.CreateError.{CreateError}
use Rattle.canvas_embed.specs.declared.fault.CreateError.TheVariants as create
use Rattle.canvas_embed.specs.declared.fault.SetError.{SetError}
use Rattle.canvas_embed.specs.declared.fault.SetError.TheVariants as set
use Rattle.canvas_embed.specs.declared.fault.ClearError.{ClearError}
use Rattle.canvas_embed.specs.declared.fault.ClearError.TheVariants as clear

-- why bytes are the JSON of no value: they aren't JSON; their JSON tree isn't that of a value, whatever its numbers; it is but for a number out
-- of range; all but its depth fits; want of memory can be met at any
abbrev pub IsValueError : List ℕ → ValueError → Type 0
IsValueError bytes value.NotJson = (d : Data) → IsJson bytes d → ⊥
IsValueError bytes value.NotAValue = (d : Data) × IsJson bytes d × (HasShape value_form d → ⊥)
IsValueError bytes value.OutOfRange = (d : Data) × IsJson bytes d × IsOutOfRange value_form d
IsValueError bytes value.TooDeep = (d : Data) × (v : Value) × IsJson bytes d × StandsFor value_form d v × (IsShallow v → ⊥)
IsValueError bytes value.Memory = Unit {0}

-- the bytes aren't JSON, or memory was refused
abbrev pub IsUnparsed : List ℕ → ValueError → Type 0
IsUnparsed bytes value.NotJson = (d : Data) → IsJson bytes d → ⊥
IsUnparsed bytes value.NotAValue = ⊥
IsUnparsed bytes value.OutOfRange = ⊥
IsUnparsed bytes value.TooDeep = ⊥
IsUnparsed bytes value.Memory = Unit {0}

-- the JSON tree isn't that of a value, or it is but for a number out of range, or memory was refused
abbrev pub IsUnjudged : Data → ValueError → Type 0
IsUnjudged d value.NotJson = ⊥
IsUnjudged d value.NotAValue = HasShape value_form d → ⊥
IsUnjudged d value.OutOfRange = IsOutOfRange value_form d
IsUnjudged d value.TooDeep = ⊥
IsUnjudged d value.Memory = Unit {0}

-- why nothing is created: the number is no kind's; or it is, and the client refuses the creation
abbrev pub IsCreateError : Client → ℕ → Target → CreateError → Type 0
IsCreateError client number target create.NoKind = kind_of_number number ≡ None
IsCreateError client number target (create.Edit e) = (kind : Kind) × (kind_of_number number ≡ Some kind) × IsRefusal client (Create kind target) (refusal e)

-- why no property is set: the bytes are no name; they are, and the others are no value; both are, and the client refuses the edit
abbrev pub IsSetError : Client → ObjId → List ℕ → List ℕ → SetError → Type 0
IsSetError client id name json (set.Name e) = IsNameError name e
IsSetError client id name json (set.Value e) = IsName name × IsValueError json e
IsSetError client id name json (set.Edit e) = IsName name × (v : Value) × IsValueText json v × IsRefusal client (Set id name v) (refusal e)

-- why no property is cleared: the bytes are no name; or they are, and the client refuses the edit
abbrev pub IsClearError : Client → ObjId → List ℕ → ClearError → Type 0
IsClearError client id name (clear.Name e) = IsNameError name e
IsClearError client id name (clear.Edit e) = IsName name × IsRefusal client (Clear id name) (refusal e)
