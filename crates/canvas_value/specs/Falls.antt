-- Each member of a list is smaller than the list, which lets contracts see a value that holds values.
use Rattle.std.specs.Prelude.{◌+◌, ◌≤◌, max, List, [], ◌∷◌}
use Rattle.std.proofs.Common.{arith}
use denote.Param.Weighed.{most}
use Rattle.std.specs.declared.alloc.Allocator.{Ghosts}
use Rattle.canvas_model.specs.Value.{Value, values_of}
use Rattle.canvas_value.specs.declared.ValueVariant.{ValueVariant}
use Rattle.canvas_value.specs.declared.ValueVariant.TheVariants as V
use Rattle.canvas_value.specs.declared.Value.TheDeep.{deep-ValueVariant}
use Rattle.canvas_value.specs.Seen.{seen}
use Rattle.canvas_value.specs.Sizes.{value_size, values_size}

most_members : (vs : List Value) → most (λ v. value_size v + 1) vs ≤ values_size (values_of vs) + 1
most_members [] = omega arith
most_members (v ∷ vs) = omega (arith, most_members vs)

pub depth_le_size : {A : Type 0} (G : Ghosts A) (n : ValueVariant A) → max (deep-ValueVariant A G n) 0 ≤ value_size (seen n)
depth_le_size G (V.Number n) = omega arith
depth_le_size G (V.Truth b) = omega arith
depth_le_size G (V.Colour c) = omega arith
depth_le_size G (V.Text s) = omega arith
depth_le_size G (V.List v) = omega (arith, most_members v.items)
