use Rattle.std.proofs.Common.{◌≡◌, take, length}
use Rattle.canvas_value.proofs.props.same_props.Given as goal

-- the first properties are the same, and there are as many
abbrev pub invariant-loop-at : goal.invariant-loop-at
invariant-loop-at g l = (take l.at l.props ≡ take l.at l.others) × (length l.props ≡ length l.others)
