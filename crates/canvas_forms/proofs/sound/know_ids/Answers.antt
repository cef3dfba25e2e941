use Rattle.std.proofs.Common.{get_or, take, subst, arith}
use Rattle.std.proofs.lemmas.List.{take_more, take_all, get_or_default}
use Rattle.std.proofs.lemmas.List.Elements.{All-push}
use Rattle.canvas_model.specs.Ids.{IsId, root}
use Rattle.canvas_forms.proofs.sound.know_ids.Goals as goal

pub loop-id-preserved : goal.loop-id-preserved
loop-id-preserved c =
    let more = take_more c.args.ids.now c.loop-id.id-index root c.loop-id-test.true in
    let here = subst IsId (get_or_default c.args.ids.now c.loop-id.id-index _ root (omega arith)) c.know_id.ensures in
    rw more (All-push IsId (take c.loop-id.id-index c.args.ids.now) (get_or c.args.ids.now c.loop-id.id-index root) c.loop-id.invariant here)

pub returns : goal.returns
returns c = rw (take_all c.loop-id.id-index c.args.ids.now (omega arith)) at c.loop-id.invariant
