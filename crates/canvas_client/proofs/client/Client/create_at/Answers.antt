use Rattle.std.proofs.Common.{sym, ap, subst, ◌∙◌}
use Rattle.canvas_model.specs.Local.{edited}
use Rattle.canvas_client.specs.Placed.{Create, MakesAt}
use Rattle.canvas_client.proofs.Edited.{may_add_at}
use Rattle.canvas_client.proofs.client.Client.create_at.Goals as goal

pub add_edit-requires : goal.add_edit-requires
add_edit-requires g c =
    may_add_at c.args.self.now (Create c.args.kind c.args.place) c.create.result
    (subst (MakesAt c.args.self.now (Create c.args.kind c.args.place)) (sym c.create.ensures) c.in_ok-id.ensures.ok)

pub returns-clause-ok : goal.returns-clause-ok
returns-clause-ok g c = (c.in_ok-id.ensures.ok, c.in_ok-number.ensures.ok ∙ ap (edited c.args.self.now) c.create.ensures)
