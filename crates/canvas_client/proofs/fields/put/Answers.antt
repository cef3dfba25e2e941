use Rattle.std.proofs.Common.{sym, ◌∙◌}
use Rattle.canvas_model.specs.Ids.{root}
use Rattle.canvas_model.specs.Receive.{staying}
use Rattle.canvas_client.proofs.Changed.{place_stays}
use Rattle.canvas_doc.proofs.Laid.{ids_equal}
use Rattle.canvas_client.proofs.fields.put.Goals as goal
use Rattle.canvas_client.proofs.fields.put.Goals.{then-eq-via-then-eq, then-eq-via-else-eq+then-some_moves}

pub returns-then-eq-clause-ok : goal.returns-then-eq-clause-ok
returns-then-eq-clause-ok g c not_root = elim c.then-eq.branch [
  | then-eq-via-then-eq w ↦ absurd (not_root (ids_equal c.args.id root w.if-eq.ensures))
  | then-eq-via-else-eq+then-some_moves w ↦ place_stays c.args.view.now.doc (staying c.args.own c.args.waiting.now) c.args.id c.args.place.now (sym w.some_moves.ensures ∙ w.if-some_moves.true)
]
