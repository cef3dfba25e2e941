-- A client's view, brought up to the next entry field by field: from the old view, the edits that stay and the entry alone.
use Rattle.std.specs.Prelude.{◌&&◌, Bool, false, not, cond, List, Option, Some, None}
use Rattle.std.specs.Option.{option_map}
use Rattle.std.specs.Ordering.{eq_by_cmp}
use Rattle.std.specs.List.{list_any}
use Rattle.std.specs.FinMap as map
use Rattle.canvas_model.specs.declared.ObjId.{ObjId}
use Rattle.canvas_model.specs.declared.Kind.{Kind}
use Rattle.canvas_model.specs.Ids.{root, same_id}
use Rattle.canvas_model.specs.Value.{Value}
use Rattle.canvas_model.specs.Document.{Place, Name, name_cmp, Object, new_object, Doc, revise, with_prop, with_place, without}
use Rattle.canvas_model.specs.Change.{Change, Create, Set, Move, Delete, object_of}
use Rattle.canvas_model.specs.Log.{What, Edit}
use Rattle.canvas_model.specs.Verdict.{Outcome, Created, WasSet, Moved, Removed, Refused}

-- the same bytes
abbrev pub same_name : Name → Name → Bool
same_name = eq_by_cmp name_cmp

-- the change creates this object
abbrev pub creates_it : ObjId → Change → Bool
creates_it q (Create id kind place) = same_id q id
creates_it q _ = false

-- the change sets or clears this property of this object
abbrev pub sets_it : ObjId → Name → Change → Bool
sets_it q name (Set id other value) = same_id q id && same_name name other
sets_it q name _ = false

-- the change moves this object, which isn't the root
abbrev pub moves_it : ObjId → Change → Bool
moves_it q (Move id place) = same_id q id && not (same_id id root)
moves_it q _ = false

-- the change deletes this object, which isn't the root
abbrev pub deletes_it : ObjId → Change → Bool
deletes_it q (Delete id) = same_id q id && not (same_id id root)
deletes_it q _ = false

-- the change is of this object
abbrev pub is_about : ObjId → Change → Bool
is_about q change = same_id q (object_of change)

-- the object at a new place, unless an edit that stays moves it
abbrev pub placed : List Change → ObjId → Place → Option Object → Option Object
placed staying id place x = cond (list_any (moves_it id) staying) x (option_map (with_place place) x)

-- the object with a new value of this property, unless an edit that stays sets it
abbrev pub valued : List Change → ObjId → Name → Option Value → Option Object → Option Object
valued staying id name value x = cond (list_any (sets_it id name) staying) x (option_map (with_prop name value) x)

-- an object that was created: one that is shown already gets its place, else it is added, unless an edit that stays deletes it
abbrev pub added : List Change → ObjId → Kind → Place → Option Object → Option Object
added staying id kind place (Some o) = placed staying id place (Some o)
added staying id kind place None = cond (list_any (deletes_it id) staying) None (Some (new_object kind (Some place)))

-- the view after an entry; `own` says that it is the client's own next one
abbrev pub refreshed : Bool → List Change → What → Outcome → Doc → Doc
refreshed own staying (Edit (Create id kind _)) (Created place) view = revise view id (added staying id kind place (map.get view id))
refreshed own staying (Edit (Set id name value)) WasSet view = revise view id (valued staying id name value (map.get view id))
refreshed own staying (Edit (Move id _)) (Moved place) view = revise view id (placed staying id place (map.get view id))
refreshed own staying (Edit (Delete id)) (Removed ids) view = without view ids
refreshed own staying (Edit (Move id _)) (Refused reason (Some place)) view = revise view id (placed staying id place (map.get view id))
refreshed own staying (Edit (Create id kind _)) (Refused reason _) view = cond own (revise view id None) view
refreshed own staying _ _ view = view
