use Rattle.std.proofs.Common.{◌≡◌, ◌+◌, ◌*◌, take, min}
use Rattle.canvas_model.specs.Value.{values_of, members_depth}
use Rattle.canvas_value.specs.Sizes.{value_size, values_size}
use Rattle.canvas_value.proofs.+depth.Given as goal

abbrev pub decreases-Value::depth : goal.decreases-Value::depth
decreases-Value::depth g l = 2 * value_size l.self.now

abbrev pub decreases-deepest : goal.decreases-deepest
decreases-deepest g l = 2 * values_size (values_of l.items.now) + 1

abbrev pub invariant-deepest-loop-item : goal.invariant-deepest-loop-item
invariant-deepest-loop-item g l = l.most ≡ min (members_depth (values_of (take l.item-index l.items))) 4294967295
