use Rattle.std.proofs.Common.{◌≡◌, ◌++◌, take}
use Rattle.std.specs.List.{flat_map}
use Rattle.canvas_tree.specs.Texts.{prop_line}
use Rattle.canvas_tree.proofs.texts.push_props.Given as goal

abbrev pub invariant-loop-prop : goal.invariant-loop-prop
invariant-loop-prop g l = l.out.items ≡ l.initial.out.items ++ flat_map (prop_line l.level) (take l.prop-index l.props)
