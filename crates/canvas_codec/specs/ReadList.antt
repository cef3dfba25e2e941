-- A list that is read member by member, and whether each whole number in it was in range.
use Rattle.std.specs.Prelude.{◌&&◌, List, [], ◌∷◌, Bool, true, Option, Some, None}

-- what was read first, before what was read of the rest
abbrev pub both : {X : Type 0} → Option (X × Bool) → Option (List X × Bool) → Option (List X × Bool)
both None rest = None
both (Some x) None = None
both (Some x) (Some xs) = Some (x.0 ∷ xs.0, x.1 && xs.1)

-- every one, read in turn
abbrev pub read_list : {D X : Type 0} → (D → Option (X × Bool)) → List D → Option (List X × Bool)
read_list f [] = Some ([], true)
read_list f (d ∷ ds) = both (f d) (read_list f ds)
