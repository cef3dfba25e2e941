-- Changes laid over a document, with no verdict asked.
use Rattle.std.specs.Prelude.{Bool, false, cond, List, [], ◌∷◌, Option, Some, None}
use Rattle.std.specs.Option.{option_map}
use Rattle.std.specs.FinMap as map
use Rattle.canvas_model.specs.Ids.{root, same_id}
use Rattle.canvas_model.specs.Document.{Doc, Object, new_object, revise, with_prop, with_place}
use Rattle.canvas_model.specs.Change.{Change, Create, Set, Move, Delete, object_of}

-- what a change makes of its object
abbrev pub laid : Change → Option Object → Option Object
laid (Create id kind place) None = Some (new_object kind (Some place))
laid (Create id kind place) (Some o) = Some o
laid (Set id name value) x = option_map (with_prop name value) x
laid (Move id place) x = option_map (with_place place) x
laid (Delete id) x = None

-- of the root only properties change
abbrev pub is_idle : Change → Bool
is_idle (Create id kind place) = same_id id root
is_idle (Set id name value) = false
is_idle (Move id place) = same_id id root
is_idle (Delete id) = same_id id root

-- one change laid over the document
abbrev pub lay : Doc → Change → Doc
lay d change = cond (is_idle change) d (revise d (object_of change) (laid change (map.get d (object_of change))))

-- these changes in order
abbrev pub over : Doc → List Change → Doc
over d [] = d
over d (change ∷ changes) = over (lay d change) changes
