use Rattle.std.proofs.Common.{Some}
use Rattle.canvas_model.specs.Ids.{root}
use Rattle.canvas_doc.proofs.Laid.{ids_differ}
use Rattle.canvas_pending.proofs.Counts.{object_no_zero, object_raised}
use Rattle.canvas_pending.proofs.Tests.{risen}
use Rattle.canvas_pending.proofs.objects.raise.Goals as goal

pub returns-clause-ok : goal.returns-clause-ok
returns-clause-ok g c =
    object_raised c.args.id (ids_differ c.args.id root c.if-eq.ensures) c.args.objects.now c.insert.new.self (Some c.in-Some.more) c.in_ok-insert.ensures.updates c.count.result c.count.ensures c.in-Some.ensures.1

pub returns-clause-no_zero : goal.returns-clause-no_zero
returns-clause-no_zero g c =
    object_no_zero c.args.id (ids_differ c.args.id root c.if-eq.ensures) c.args.objects.now c.insert.new.self (Some c.in-Some.more) c.in_ok-insert.ensures.updates (risen c.in-Some.more c.count.result c.in-Some.ensures.1) c.requires
