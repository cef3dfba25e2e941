use Rattle.std.proofs.Common.{◌≡◌, take, true}
use Rattle.canvas_model.specs.Value.{values_of}
use Rattle.canvas_value.specs.Range.{all_fit}
use Rattle.canvas_value.proofs.every_number.Given as goal

-- the numbers of the first values are in range
abbrev pub invariant-loop-item : goal.invariant-loop-item
invariant-loop-item g l = all_fit (values_of (take l.item-index l.items)) ≡ true
