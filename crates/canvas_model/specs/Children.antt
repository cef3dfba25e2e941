-- The children of an object, in order.
use Rattle.std.specs.Prelude.{◌≡◌, ◌↔◌, List, [], Option, Some}
use Rattle.std.specs.Option.{option_map, option_map_or}
use Rattle.std.specs.List.{Contains}
use Rattle.std.specs.List.Sorted.{IsStrictlySortedBy}
use Rattle.std.specs.Ordering.{nat_cmp, on, then_cmp}
use Rattle.std.specs.Cmp.Lexicographic.{slice_cmp}
use Rattle.std.specs.declared.cmp.Ordering.{Ordering}
use Rattle.canvas_model.specs.declared.ObjId.{ObjId}
use Rattle.canvas_model.specs.Ids.{id_cmp}
use Rattle.canvas_model.specs.Document.{Doc, Pos, place_of}

-- the parent that an object's place names, if it is live and has one
abbrev pub parent_of : Doc → ObjId → Option ObjId
parent_of d q = option_map (λ p. p.parent) (place_of d q)

-- the bytes of an object's position, none where it has no place
abbrev pub position_of : Doc → ObjId → Pos
position_of d q = option_map_or (λ p. p.pos) (place_of d q) []

-- children are ordered by position, then by id
abbrev pub child_cmp : Doc → ObjId → ObjId → Ordering
child_cmp d = then_cmp (on (position_of d) (slice_cmp nat_cmp)) id_cmp

-- these are the live objects whose place names this parent, each once and in order
pub record AreChildren (d : Doc) (parent : ObjId) (ids : List ObjId) : Type 0 where
  pub in_order : IsStrictlySortedBy (child_cmp d) ids
  pub each : (q : ObjId) → Contains ids q ↔ (parent_of d q ≡ Some parent)
