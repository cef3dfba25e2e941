use Rattle.std.proofs.Common.{OnOk, subst}
use Rattle.canvas_client.specs.Asked.{HasMade}
use Rattle.canvas_client.proofs.client.Client.move_to.Goals as goal

pub returns-clause-ok : goal.returns-clause-ok
returns-clause-ok g c = subst (λ r. OnOk c.edit.result (HasMade c.args.self.now r c.edit.new.self)) c.move_to-request.ensures c.edit.ensures.ok
