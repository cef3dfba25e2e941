-- The words for what a change does.
use Rattle.std.specs.Prelude.{ℕ, List, codes, Some, None}
use Rattle.canvas_model.specs.Change as change
use Rattle.canvas_lines.specs.declared.words.Verb.{Verb}
use Rattle.canvas_lines.specs.declared.words.Verb.TheVariants.{Create, Set, Clear, Move, Delete}

-- each verb is one word
abbrev pub verb_word : Verb → List ℕ
verb_word Create = codes "create"
verb_word Set = codes "set"
verb_word Clear = codes "clear"
verb_word Move = codes "move"
verb_word Delete = codes "delete"

-- the verb of a change
abbrev pub verb_of : change.Change → Verb
verb_of (change.Create id kind place) = Create
verb_of (change.Set id name (Some value)) = Set
verb_of (change.Set id name None) = Clear
verb_of (change.Move id place) = Move
verb_of (change.Delete id) = Delete
