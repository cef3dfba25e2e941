-- What is asked of each client of a rally.
use Rattle.std.specs.Prelude.{◌≡◌, ℕ, List, [], ◌∷◌, All, None, length}
use Rattle.canvas_model.specs.declared.ObjId.{ObjId}
use Rattle.canvas_model.specs.declared.Kind.TheVariants.{Page}
use Rattle.canvas_model.specs.Ids.{root}
use Rattle.canvas_model.specs.Local.{Clear, Create, Delete, EditRequest, Move, Set}

-- the request sets a property of this object
abbrev pub IsSetOf : ObjId → EditRequest → Type 0
IsSetOf id (Set at name value) = at ≡ id
IsSetOf id (Create kind target) = ⊥
IsSetOf id (Clear at name) = ⊥
IsSetOf id (Move at target) = ⊥
IsSetOf id (Delete at) = ⊥

-- the first object that the client creates
abbrev pub first_of_client : ℕ → ObjId
first_of_client c = record { client = c; counter = 1 }

-- a page is asked for, first in the document, and then so many sets of a property of it
abbrev pub AsksForPage : ℕ → ℕ → List EditRequest → Type 0
AsksForPage c sets [] = ⊥
AsksForPage c sets (first ∷ rest) = (first ≡ Create Page (record { parent = root; after = None })) × (length rest ≡ sets) × All (IsSetOf (first_of_client c)) rest
