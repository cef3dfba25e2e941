use Rattle.std.proofs.Common.{arith}
use Rattle.canvas_value.proofs.Copied.{same_more}
use Rattle.canvas_value.proofs.props.same_props.Goals as goal

pub loop-at-preserved : goal.loop-at-preserved
loop-at-preserved g c = (
  same_more c.args.props.now c.args.others.now c.loop-at.at c.index-props-at.result c.index-others-at.result (omega arith) (omega (arith, c.loop-at.invariant.1)) c.index-props-at.is c.index-others-at.is (c.same_prop.ensures.0 c.if-not-same_prop.false) c.loop-at.invariant.0,
  c.loop-at.invariant.1,
)
