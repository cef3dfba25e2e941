-- The objects that stand somewhere, in the order of their parents, positions and ids. A spot is a parent, the first digits of a
-- position, and an id.
use Rattle.std.specs.Prelude.{◌≡◌, ◌↔◌, ℕ, Bool, true, false, List, [], Option, Some, None}
use Rattle.std.specs.List.{Contains}
use Rattle.std.specs.List.Sorted.{IsStrictlySortedBy}
use Rattle.std.specs.Option.{option_map, option_map_or}
use Rattle.std.specs.Ordering.{is_lt, match_ordering, nat_cmp, on, ordering_then, then_cmp}
use Rattle.std.specs.Cmp.Lexicographic.{slice_cmp}
use Rattle.std.specs.declared.cmp.Ordering.{Ordering}
use Rattle.canvas_blocks.specs.Blocks.{IsEdge}
use Rattle.canvas_model.specs.declared.ObjId.{ObjId}
use Rattle.canvas_model.specs.Ids.{id_cmp, root}
use Rattle.canvas_model.specs.Document.{Place, Pos}
use Rattle.canvas_pos.specs.Digits.{first_digits}
use Rattle.canvas_doc.specs.declared.spots.Spot.{Spot}

-- q is less than id
abbrev pub is_lesser : ObjId → ObjId → Bool
is_lesser id q = is_lt (id_cmp q id)

-- where each object stands
abbrev pub Places : Type 0
Places = ObjId → Option Place

-- the parent and the position of an object, if it stands somewhere
abbrev pub parent_at : Places → ObjId → Option ObjId
parent_at p q = option_map (λ s. s.parent) (p q)

abbrev pub pos_at : Places → ObjId → Option Pos
pos_at p q = option_map (λ s. s.pos) (p q)

-- its position, none where it has no place
abbrev pub position_at : Places → ObjId → Pos
position_at p q = option_map_or (λ s. s.pos) (p q) []

-- an object at the first position stands before one at the second
abbrev pub is_lower : Option Pos → ObjId → Pos → ObjId → Bool
is_lower None q pos id = true
is_lower (Some p) q pos id = is_lt (ordering_then (slice_cmp nat_cmp p pos) (id_cmp q id))

-- the spot of an object at this place
abbrev pub new_spot : ObjId → Place → Spot
new_spot q place = record { parent = place.parent; digits = first_digits place.pos; id = q }

-- the spot of an object, if it stands somewhere
abbrev pub spot_at : Places → ObjId → Option Spot
spot_at p q = option_map (new_spot q) (p q)

-- the spot stands before this one
abbrev pub is_before : Places → ObjId → Pos → ObjId → Spot → Bool
is_before p parent pos id s = match_ordering (id_cmp s.parent parent) true (is_lower (pos_at p s.id) s.id pos id) false

-- the order of the spots
abbrev pub spot_cmp : Places → Spot → Spot → Ordering
spot_cmp p = then_cmp (on (λ s. s.parent) id_cmp) (on (λ s. s.id) (then_cmp (on (position_at p) (slice_cmp nat_cmp)) id_cmp))

-- these are the spots of all objects that stand somewhere, in order
pub record AreSpots (p : Places) (spots : List Spot) : Type 0 where
  pub in_order : IsStrictlySortedBy (spot_cmp p) spots
  pub each : (s : Spot) → Contains spots s ↔ (spot_at p s.id ≡ Some s)

-- the spots before the one of this parent, position and id end here
abbrev pub IsCut : Places → ObjId → Pos → ObjId → List Spot → ℕ → Type 0
IsCut p parent pos id = IsEdge (λ s b. b ≡ is_before p parent pos id s)

-- the spots under lesser parents end here
abbrev pub IsStart : ObjId → List Spot → ℕ → Type 0
IsStart parent = IsEdge (λ s b. b ≡ is_lesser parent s.parent)

-- the children that stand at `low` or after it begin here, or all of them where there is no `low`
abbrev pub IsFirst : Places → ObjId → Option Pos → List Spot → ℕ → Type 0
IsFirst p parent None = IsStart parent
IsFirst p parent (Some low) = IsCut p parent low root
