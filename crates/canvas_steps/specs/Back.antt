-- Changes that undo other changes.
use Rattle.std.specs.Prelude.{◌≡◌, false, cond, List, [], ◌∷◌, ◌++◌, Option, Some, None}
use Rattle.std.specs.Option.{option_map}
use Rattle.std.specs.List.{list_any}
use Rattle.std.specs.FinMap as map
use Rattle.canvas_model.specs.declared.ObjId.{ObjId}
use Rattle.canvas_model.specs.Document.{Doc, live, place_of, prop_of}
use Rattle.canvas_model.specs.Change.{Change, Create, Set, Move, Delete}
use Rattle.canvas_model.specs.Overlay.{lay, over}
use Rattle.canvas_model.specs.View.{is_about}

-- The change that undoes a change of this view: an object that wasn't live is deleted, a property gets its old value or is cleared, an
-- object goes back to its old place. No single change undoes a deletion.
abbrev pub taking_back : Doc → Change → Option Change
taking_back view (Create id kind place) = cond (live view id) None (Some (Delete id))
taking_back view (Set id name value) = Some (Set id name (prop_of view id name))
taking_back view (Move id place) = option_map (Move id) (place_of view id)
taking_back view (Delete id) = None

-- these changes undo a step of changes in the view, its last change first
abbrev pub TakesBack : Doc → List Change → List Change → Type 0
TakesBack view [] back = back ≡ []
TakesBack view (change ∷ step) back = (one : Change) × (rest : List Change) × (taking_back view change ≡ Some one) × TakesBack (lay view change) step rest × (back ≡ rest ++ one ∷ [])

-- a change and then the one that undoes it give the same view
abbrev pub EachChangeIsTakenBack : Type 0
EachChangeIsTakenBack = (view : Doc) (change back : Change) → taking_back view change ≡ Some back → lay (lay view change) back ≡ view

-- a step and then the changes that undo it give the same view
abbrev pub EachStepIsTakenBack : Type 0
EachStepIsTakenBack = (view : Doc) (step back : List Change) → TakesBack view step back → over (over view step) back ≡ view

-- changes of other objects leave an object as it is, in every view
abbrev pub EachOtherStays : Type 0
EachOtherStays = (view : Doc) (back : List Change) (q : ObjId) → list_any (is_about q) back ≡ false → map.get (over view back) q ≡ map.get view q
