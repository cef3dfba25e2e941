use Rattle.canvas_model.specs.Local.{Create, Target}
use Rattle.canvas_client.proofs.Edited.{has_created}
use Rattle.canvas_client.proofs.client.Client.create.Goals as goal

pub commit-requires : goal.commit-requires
commit-requires g c = (Create c.args.kind (record { parent = c.args.parent; after = c.args.after }), c.in_ok-change.ensures.ok)

pub returns-clause-ok : goal.returns-clause-ok
returns-clause-ok g c =
    let target : Target = record { parent = c.args.parent; after = c.args.after } in
    has_created c.args.self.now c.commit.new.self c.args.kind target c.in_ok-change.change c.object_of-id.result c.in_ok-change.ensures.ok c.object_of-id.ensures c.in_ok-number.ensures.ok
