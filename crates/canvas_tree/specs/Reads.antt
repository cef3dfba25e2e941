-- What is read of a tree.
use Rattle.std.specs.Prelude.{◌≡◌, List, [], ◌∷◌, ◌++◌, Option, None, Some, Bool, true, false, cond}
use Rattle.std.specs.Option.{option_map, option_or}
use Rattle.canvas_model.specs.declared.ObjId.{ObjId}
use Rattle.canvas_model.specs.Ids.{same_id}
use Rattle.canvas_tree.specs.Shapes.{Forest, none, tree, Branch}

-- the tree at the first object of this id, if these trees have it
abbrev pub found_in : ObjId → Forest → Option Branch
found_in id none = None
found_in id (tree l k r) = cond (same_id l.id id) (Some (record { label = l; below = k })) (option_or (found_in id k) (found_in id r))

-- the same in one tree
abbrev pub found : ObjId → Branch → Option Branch
found id t = cond (same_id t.label.id id) (Some t) (found_in id t.below)

-- the ids from the top of one of these trees down to the first object of this id
abbrev pub path_in : ObjId → Forest → Option (List ObjId)
path_in id none = None
path_in id (tree l k r) = cond (same_id l.id id) (Some (l.id ∷ [])) (option_or (option_map (λ p. l.id ∷ p) (path_in id k)) (path_in id r))

-- the same in one tree
abbrev pub path : ObjId → Branch → Option (List ObjId)
path id t = cond (same_id t.label.id id) (Some (t.label.id ∷ [])) (option_map (λ p. t.label.id ∷ p) (path_in id t.below))

-- a walk that found the object has written the path to it, and one that didn't has written nothing
abbrev pub Walked : Bool → Option (List ObjId) → List ObjId → List ObjId → Type 0
Walked true p old new = (ps : List ObjId) × (p ≡ Some ps) × (new ≡ old ++ ps)
Walked false p old new = (p ≡ None) × (new ≡ old)
