-- How ids, kinds, places and reasons are written, and what is read of them.
use Rattle.std.specs.Prelude.{◌≡◌, ℕ, List, ◌++◌, codes, Result, Ok, Err}
use Rattle.std.specs.Fmt.{decimal}
use Rattle.canvas_model.specs.declared.ObjId.{ObjId}
use Rattle.canvas_model.specs.declared.Kind.{Kind}
use Rattle.canvas_model.specs.declared.Kind.TheVariants.{Document, Page, Frame, Shape, Text}
use Rattle.canvas_model.specs.declared.Reason.{Reason}
use Rattle.canvas_model.specs.declared.Reason.TheVariants.{IsRoot, BadId, Gone, ParentGone, BadParent, Cycle, Crowded, TooDeep}
use Rattle.canvas_model.specs.Ids.{IsId}
use Rattle.canvas_model.specs.Document.{Place}
use Rattle.canvas_model.specs.Verdict.{number_of}

-- an object id is `client:counter`, both decimal
abbrev pub id_text : ObjId → List ℕ
id_text id = decimal id.client ++ codes ":" ++ decimal id.counter

-- a kind is one word
abbrev pub kind_word : Kind → List ℕ
kind_word Document = codes "document"
kind_word Page = codes "page"
kind_word Frame = codes "frame"
kind_word Shape = codes "shape"
kind_word Text = codes "text"

-- a place is the parent's id, a blank and the bytes of the position
abbrev pub place_text : Place → List ℕ
place_text place = id_text place.parent ++ codes " " ++ place.pos

-- a reason is its name
abbrev pub reason_word : Reason → List ℕ
reason_word IsRoot = codes "IsRoot"
reason_word BadId = codes "BadId"
reason_word Gone = codes "Gone"
reason_word ParentGone = codes "ParentGone"
reason_word BadParent = codes "BadParent"
reason_word Cycle = codes "Cycle"
reason_word Crowded = codes "Crowded"
reason_word TooDeep = codes "TooDeep"

-- what was read is so written, and nothing was read only where nothing is
abbrev pub Reads : {X E : Type 0} → (X → Type 0) → Result X E → Type 0
Reads IsWritten (Ok x) = IsWritten x
Reads {X = X} IsWritten (Err e) = (x : X) → IsWritten x → ⊥

-- the id of two numbers of 32 bits that is written as these bytes
abbrev pub ReadsId : {E : Type 0} → List ℕ → Result ObjId E → Type 0
ReadsId bytes = Reads (λ id. IsId id × (bytes ≡ id_text id))

-- the kind whose word is these bytes
abbrev pub ReadsKind : {E : Type 0} → List ℕ → Result Kind E → Type 0
ReadsKind bytes = Reads (λ kind. bytes ≡ kind_word kind)

-- the reason of this number
abbrev pub ReadsReason : {E : Type 0} → ℕ → Result Reason E → Type 0
ReadsReason n = Reads (λ reason. number_of reason ≡ n)
