-- Steps of acts: changes that undo edits, and are made the last one first.
use Rattle.std.specs.Prelude.{◌≡◌, ◌||◌, ◌-◌, Bool, false, cond, List, [], ◌∷◌, ◌++◌, length, drop, Some}
use Rattle.std.specs.List.{list_any}
use Rattle.canvas_model.specs.Document.{Doc}
use Rattle.canvas_model.specs.Change.{Change, Set, Move}
use Rattle.canvas_model.specs.Overlay.{lay}
use Rattle.canvas_model.specs.View.{deletes_it, moves_it, sets_it}
use Rattle.canvas_steps.specs.Back.{taking_back}

-- the view after these acts, the last one first
abbrev pub undone : Doc → List Change → Doc
undone view [] = view
undone view (act ∷ acts) = lay (undone view acts) act

-- the acts give a property its old value already, or delete its object; or the last one moves the object to its old place already
abbrev pub covers : List Change → Change → Bool
covers acts (Set id name value) = list_any (sets_it id name) acts || list_any (deletes_it id) acts
covers acts (Move id place) = list_any (moves_it id) (drop (length acts - 1) acts)
covers acts _ = false

-- the acts after one more edit, which this act undoes
abbrev pub noted : Change → List Change → List Change
noted act acts = cond (covers acts act) acts (acts ++ act ∷ [])

-- acts that gave a view give it after one more edit
abbrev pub EachNoteRestores : Type 0
EachNoteRestores = (view before : Doc) (change act : Change) (acts : List Change) → taking_back view change ≡ Some act → undone view acts ≡ before → undone (lay view change) (noted act acts) ≡ before
