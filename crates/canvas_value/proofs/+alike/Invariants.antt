use Rattle.std.proofs.Common.{◌≡◌, ◌+◌, ◌*◌, take, length}
use Rattle.canvas_model.specs.Value.{values_of}
use Rattle.canvas_value.specs.Sizes.{value_size, values_size}
use Rattle.canvas_value.proofs.+alike.Given as goal

abbrev pub decreases-alike : goal.decreases-alike
decreases-alike g l = 2 * value_size l.value.now

abbrev pub decreases-alike_items : goal.decreases-alike_items
decreases-alike_items g l = 2 * values_size (values_of l.items.now) + 1

-- the first items are the same, and there are as many
abbrev pub invariant-alike_items-loop-at : goal.invariant-alike_items-loop-at
invariant-alike_items-loop-at g l = (take l.at l.items ≡ take l.at l.others) × (length l.items ≡ length l.others)
