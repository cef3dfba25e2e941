use Rattle.std.proofs.Common.{get_or, take, subst, arith}
use Rattle.std.proofs.lemmas.List.{take_more, take_all}
use Rattle.std.proofs.lemmas.List.Elements.{All-push}
use Rattle.canvas_doc.specs.Known.{IsRow}
use Rattle.canvas_doc.proofs.know_rows.Goals as goal

pub loop-pair-preserved : goal.loop-pair-preserved
loop-pair-preserved g c =
    let more = take_more c.args.objects.now c.loop-pair.pair-index c.pair-item.result c.loop-pair-test.true in
    let here : IsRow c.pair-item.result = (c.know_id.ensures, c.every_part.ensures) in
    rw more (All-push IsRow (take c.loop-pair.pair-index c.args.objects.now) (get_or c.args.objects.now c.loop-pair.pair-index c.pair-item.result) c.loop-pair.invariant (subst IsRow c.pair-item.is here))

pub returns : goal.returns
returns g c = rw (take_all c.loop-pair.pair-index c.args.objects.now (omega arith)) at c.loop-pair.invariant
