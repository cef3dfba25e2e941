-- Edits from numbers and bytes: the client's own, of the things that these spell.
use Rattle.std.specs.Prelude.{◌≡◌, ℕ, List, Some}
use Rattle.canvas_model.specs.declared.ObjId.{ObjId}
use Rattle.canvas_model.specs.declared.Kind.{Kind}
use Rattle.canvas_model.specs.Value.{Value}
use Rattle.canvas_model.specs.Client.{Client}
use Rattle.canvas_model.specs.Local.{Create, Set, Clear, Target}
use Rattle.canvas_value.specs.Names.{IsName}
use Rattle.canvas_client.specs.Asked.{HasCreated, HasMade}
use Rattle.canvas_embed.specs.Kinds.{kind_of_number}
use Rattle.canvas_embed.specs.Values.{IsValueText}

-- the number is that of a kind, and the client has created this object of it
abbrev pub HasCreatedKind : Client → ℕ → Target → ObjId → Client → Type 0
HasCreatedKind old number target id new = (kind : Kind) × (kind_of_number number ≡ Some kind) × HasCreated old (Create kind target) id new

-- the bytes are a name and JSON of a value, and the client has set that property to it
abbrev pub HasSet : Client → ObjId → List ℕ → List ℕ → Client → Type 0
HasSet old id name json new = IsName name × (value : Value) × IsValueText json value × HasMade old (Set id name value) new

-- the bytes are a name, and the client has cleared that property
abbrev pub HasCleared : Client → ObjId → List ℕ → Client → Type 0
HasCleared old id name new = IsName name × HasMade old (Clear id name) new
