use Rattle.std.proofs.Common.{rules, arith, ap}
use Rattle.std.proofs.lemmas.List.{take_more}
use Rattle.canvas_model.specs.Value.{depth}
use Rattle.canvas_value.proofs.Members.{member_within, members_depth-more}
use Rattle.canvas_value.proofs.+depth.Goals as goal

pub deepest-loop-item-preserved : goal.deepest-loop-item-preserved
deepest-loop-item-preserved g t c =
    let more = take_more c.args.items.now c.loop-item.item-index c.item-item.result c.loop-item-test.true in
    let same = ap depth c.item-item.is in
    rw (more, members_depth-more) (omega (arith, same))

pub deepest-depth-requires : goal.deepest-depth-requires
deepest-depth-requires g t c κs within = search (rules, member_within c.args.items.now c.loop-item.item-index c.item-item.result c.loop-item-test.true)
