use Rattle.std.proofs.Common.{All, take}
use Rattle.canvas_value.specs.Props.{IsProp}
use Rattle.canvas_value.proofs.props.every_prop.Given as goal

-- the first properties are so
abbrev pub invariant-loop-prop : goal.invariant-loop-prop
invariant-loop-prop g l = All IsProp (take l.prop-index l.props)
