-- The words of an edit, and two parts with a blank between them.
use Rattle.std.specs.Prelude.{◌≡◌, List, ℕ, ◌++◌, codes, Option, Some, None}
use Rattle.canvas_model.specs.declared.ObjId.{ObjId}
use Rattle.canvas_model.specs.declared.Kind.{Kind}
use Rattle.canvas_model.specs.Ids.{IsId}
use Rattle.canvas_model.specs.Text.{id_text, kind_word}

-- the text is a first part, a blank and the rest
abbrev pub Spaced : List ℕ → (List ℕ → Type 0) → (List ℕ → Type 0) → Type 0
Spaced text IsFirst IsRest = (first : List ℕ) × (rest : List ℕ) × (text ≡ first ++ codes " " ++ rest) × IsFirst first × IsRest rest

-- the word is the object's id
abbrev pub SpellsId : List ℕ → ObjId → Type 0
SpellsId word id = IsId id × (word ≡ id_text id)

-- the word is the kind's
abbrev pub SpellsKind : List ℕ → Kind → Type 0
SpellsKind word kind = word ≡ kind_word kind

-- the id of the child that comes before, or `-` to come first
abbrev pub SpellsChildBefore : List ℕ → Option ObjId → Type 0
SpellsChildBefore word None = word ≡ codes "-"
SpellsChildBefore word (Some id) = SpellsId word id
