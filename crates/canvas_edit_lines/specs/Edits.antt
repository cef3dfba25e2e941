-- How edits are spelled.
use Rattle.std.specs.Prelude.{◌≡◌, ℕ, List}
use Rattle.canvas_model.specs.declared.ObjId.{ObjId}
use Rattle.canvas_model.specs.declared.Kind.{Kind}
use Rattle.canvas_model.specs.Document.{Name}
use Rattle.canvas_model.specs.Value.{Value, IsShallow}
use Rattle.canvas_model.specs.Local as local
use Rattle.canvas_model.specs.Local.{Target, EditRequest}
use Rattle.canvas_lines.specs.declared.words.Verb.{Verb}
use Rattle.canvas_lines.specs.declared.words.Verb.TheVariants.{Create, Set, Clear, Move, Delete}
use Rattle.canvas_lines.specs.Spelling.{SpellsName, SpellsValue, SpellsVerb}
use Rattle.canvas_edit_lines.specs.Words.{Spaced, SpellsId, SpellsKind, SpellsChildBefore}

-- the parent's id, and then what comes before in it
abbrev pub SpellsTarget : List ℕ → Target → Type 0
SpellsTarget text target = Spaced text (λ word. SpellsId word target.parent) (λ word. SpellsChildBefore word target.after)

-- the JSON of a value that isn't too deep
abbrev pub SpellsShallow : List ℕ → Value → Type 0
SpellsShallow text value = SpellsValue text value × IsShallow value

-- a property's name, and then its value
abbrev pub SpellsProperty : List ℕ → Name × Value → Type 0
SpellsProperty text property = Spaced text (λ word. SpellsName word property.0) (λ json. SpellsShallow json property.1)

-- what follows each verb
abbrev pub SpellsEditRest : Verb → List ℕ → EditRequest → Type 0
SpellsEditRest Create rest request = (kind : Kind) × (target : Target) × (request ≡ local.Create kind target) × Spaced rest (λ word. SpellsKind word kind) (λ text. SpellsTarget text target)
SpellsEditRest Set rest request = (id : ObjId) × (name : Name) × (value : Value) × (request ≡ local.Set id name value) × Spaced rest (λ word. SpellsId word id) (λ text. SpellsProperty text (name, value))
SpellsEditRest Clear rest request = (id : ObjId) × (name : Name) × (request ≡ local.Clear id name) × Spaced rest (λ word. SpellsId word id) (λ word. SpellsName word name)
SpellsEditRest Move rest request = (id : ObjId) × (target : Target) × (request ≡ local.Move id target) × Spaced rest (λ word. SpellsId word id) (λ text. SpellsTarget text target)
SpellsEditRest Delete rest request = (id : ObjId) × (request ≡ local.Delete id) × SpellsId rest id

-- a verb, and what follows it
abbrev pub SpellsEdit : List ℕ → EditRequest → Type 0
SpellsEdit text request = (verb : Verb) × Spaced text (λ word. SpellsVerb word verb) (λ rest. SpellsEditRest verb rest request)
