-- Changes as JSON: arrays that begin with the word of what is asked.
use Rattle.std.specs.Prelude.{◌⊎◌, ℕ, List, Bool, Option, Some, None, codes}
use mathlib.Core.Logic.{inl, inr}
use Rattle.serde_json.specs.Data.{string, array, Items, item}
use Rattle.canvas_model.specs.declared.ObjId.{ObjId}
use Rattle.canvas_model.specs.declared.Kind.{Kind}
use Rattle.canvas_model.specs.Value.{Value}
use Rattle.canvas_model.specs.Document.{Place, Name}
use Rattle.canvas_model.specs.Change.{Change, Create, Set, Move, Delete}
use Rattle.canvas_codec.specs.Codec.{Codec, Members, Worded}
use Rattle.canvas_codec.specs.Parts.{via, array_of, headed, choice, after, member, end}
use Rattle.canvas_codec.specs.Json.{value_form, name_form}
use Rattle.canvas_forms.specs.Ids.{id_form}
use Rattle.canvas_forms.specs.Kinds.{kind_form}
use Rattle.canvas_forms.specs.Places.{place_form}

-- `id,kind,place`
abbrev pub created : Members (ObjId × (Kind × (Place × Unit {0})))
created = member id_form (member kind_form (member place_form end))

-- `id,name,value`
abbrev pub set_to : Members (ObjId × (Name × (Value × Unit {0})))
set_to = member id_form (member name_form (member value_form end))

-- `id,name`
abbrev pub cleared : Members (ObjId × (Name × Unit {0}))
cleared = member id_form (member name_form end)

-- `id,place`
abbrev pub moved : Members (ObjId × (Place × Unit {0}))
moved = member id_form (member place_form end)

-- `id`
abbrev pub deleted : Members (ObjId × Unit {0})
deleted = member id_form end

-- what stands in a change
abbrev pub ChangeParts : Type 0
ChangeParts = (ObjId × (Kind × (Place × Unit {0}))) ⊎ ((ObjId × (Name × (Value × Unit {0}))) ⊎ ((ObjId × (Name × Unit {0})) ⊎ ((ObjId × (Place × Unit {0})) ⊎ (ObjId × Unit {0}))))

-- `"create",..`, `"set",..`, `"clear",..`, `"move",..` or `"delete",..`
abbrev pub change_words : Worded ChangeParts
change_words = choice (codes "create") created (choice (codes "set") set_to (choice (codes "clear") cleared (choice (codes "move") moved (after (codes "delete") deleted))))

-- the change of these parts
abbrev pub change_of : ChangeParts → Change
change_of (inl p) = Create p.0 p.1.0 p.1.1.0
change_of (inr (inl p)) = Set p.0 p.1.0 (Some p.1.1.0)
change_of (inr (inr (inl p))) = Set p.0 p.1.0 None
change_of (inr (inr (inr (inl p)))) = Move p.0 p.1.0
change_of (inr (inr (inr (inr p)))) = Delete p.0

-- the parts of a change
abbrev pub parts_of : Change → ChangeParts
parts_of (Create id kind place) = inl (id, (kind, (place, tt)))
parts_of (Set id name (Some value)) = inr (inl (id, (name, (value, tt))))
parts_of (Set id name None) = inr (inr (inl (id, (name, tt))))
parts_of (Move id place) = inr (inr (inr (inl (id, (place, tt)))))
parts_of (Delete id) = inr (inr (inr (inr (id, tt))))

-- a change
abbrev pub change_form : Codec Change
change_form = via change_of parts_of (array_of (headed change_words))

-- the change that an array is read as which begins with this word
abbrev pub change_after : List ℕ → Items → Option (Change × Bool)
change_after w ds = change_form.read (array (item (string w) ds))
