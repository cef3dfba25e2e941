use Rattle.std.proofs.Common.{sym, ap, ◌∙◌}
use Rattle.canvas_doc.specs.Seen.{seen}
use Rattle.canvas_doc.proofs.Laid.{ids_equal}
use Rattle.canvas_pending.proofs.Tests.{sets_row}
use Rattle.canvas_pending.proofs.writes.sets.Goals as goal

pub returns-then-eq : goal.returns-then-eq
returns-then-eq g c =
    sets_row c.same.result c.args.change.now c.args.id c.in-Set.set c.args.name.now c.in-Set.other c.in-Set.value (sym c.variant.ensures.variant ∙ ap seen c.in-Set.is) (ids_equal c.args.id c.in-Set.set c.if-eq.ensures) c.same.ensures
