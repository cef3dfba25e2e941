use Rattle.std.proofs.Common.{◌≡◌, get_or, take, true, subst, arith}
use Rattle.std.proofs.lemmas.List.{take_more, take_all, get_or_default}
use Rattle.std.proofs.lemmas.List.Elements.{All-push}
use Rattle.canvas_model.specs.declared.Counts.{Counts}
use Rattle.canvas_forms.specs.Ids.{client_form}
use Rattle.canvas_wire.proofs.sound.know_clients.Goals as goal

abbrev none_yet : Counts
none_yet = record { done = 0; used = 0 }

abbrev Fits : Counts → Type 0
Fits k = client_form.fits k.used ≡ true

pub loop-counts-preserved : goal.loop-counts-preserved
loop-counts-preserved c =
    let more = take_more c.args.clients.now c.loop-counts.counts-index none_yet c.loop-counts-test.true in
    let here = subst Fits (get_or_default c.args.clients.now c.loop-counts.counts-index _ none_yet (omega arith)) c.know_client.ensures in
    rw more (All-push Fits (take c.loop-counts.counts-index c.args.clients.now) (get_or c.args.clients.now c.loop-counts.counts-index none_yet) c.loop-counts.invariant here)

pub returns : goal.returns
returns c = rw (take_all c.loop-counts.counts-index c.args.clients.now (omega arith)) at c.loop-counts.invariant
