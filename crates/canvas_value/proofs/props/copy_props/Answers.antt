use Rattle.std.proofs.Common.{arith}
use Rattle.canvas_value.proofs.Copied.{copied_more}
use Rattle.canvas_value.proofs.props.copy_props.Goals as goal

pub loop-prop-preserved : goal.loop-prop-preserved
loop-prop-preserved g c = copied_more c.args.props.now _ _ c.loop-prop.prop-index c.prop-item.result _ (omega arith) c.prop-item.is c.loop-prop.invariant c.in_ok-copy_prop.ensures c.in_ok-push.ensures.items
