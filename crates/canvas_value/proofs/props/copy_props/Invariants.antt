use Rattle.std.proofs.Common.{◌≡◌, take}
use Rattle.canvas_value.proofs.props.copy_props.Given as goal

-- the first properties stand in the copy
abbrev pub invariant-loop-prop : goal.invariant-loop-prop
invariant-loop-prop g l = l.copies.items ≡ take l.prop-index l.props
