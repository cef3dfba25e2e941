use Rattle.std.proofs.Common.{get_or, take, subst, arith}
use Rattle.std.proofs.lemmas.List.{take_more, take_all}
use Rattle.std.proofs.lemmas.List.Elements.{All-push}
use Rattle.canvas_value.specs.Props.{IsProp}
use Rattle.canvas_value.proofs.props.every_prop.Goals as goal

pub loop-prop-preserved : goal.loop-prop-preserved
loop-prop-preserved g c =
    let more = take_more c.args.props.now c.loop-prop.prop-index c.prop-item.result c.loop-prop-test.true in
    let here : IsProp c.prop-item.result = record { name = c.bytes-name.ensures.name; range = c.variant-variant.ensures.range } in
    let there = subst IsProp c.prop-item.is here in
    rw more (All-push IsProp (take c.loop-prop.prop-index c.args.props.now) (get_or c.args.props.now c.loop-prop.prop-index c.prop-item.result) c.loop-prop.invariant there)

pub returns : goal.returns
returns g c = rw (take_all c.loop-prop.prop-index c.args.props.now (omega arith)) at c.loop-prop.invariant
