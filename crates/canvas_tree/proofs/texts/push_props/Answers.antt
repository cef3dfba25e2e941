use Rattle.std.proofs.Common.{◌∙◌}
use Rattle.canvas_tree.specs.Texts.{prop_line}
use Rattle.canvas_tree.proofs.Lines.{lines_more}
use Rattle.canvas_tree.proofs.texts.push_props.Goals as goal

pub loop-prop-preserved : goal.loop-prop-preserved
loop-prop-preserved g c = lines_more (prop_line c.args.level) c.args.props.now c.loop-prop.prop-index c.prop-item.result c.args.out.now.items c.loop-prop.out.items c.as_bytes.result.now _ c.loop-prop-test.true c.prop-item.is c.loop-prop.invariant (c.as_bytes.ensures.value ∙ c.in_ok-line.ensures) c.in_ok-extend_from_slice.ensures.items
