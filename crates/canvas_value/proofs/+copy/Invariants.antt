use Rattle.std.proofs.Common.{◌≡◌, ◌+◌, ◌*◌, take}
use Rattle.canvas_model.specs.Value.{values_of}
use Rattle.canvas_value.specs.Sizes.{value_size, values_size}
use Rattle.canvas_value.proofs.+copy.Given as goal

abbrev pub decreases-copy : goal.decreases-copy
decreases-copy g l = 2 * value_size l.value.now

abbrev pub decreases-copy_items : goal.decreases-copy_items
decreases-copy_items g l = 2 * values_size (values_of l.items.now) + 1

-- the first items stand in the copy
abbrev pub invariant-copy_items-loop-item : goal.invariant-copy_items-loop-item
invariant-copy_items-loop-item g l = l.copies.items ≡ take l.item-index l.items
