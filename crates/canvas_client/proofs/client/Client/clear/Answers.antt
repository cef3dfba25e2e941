use Rattle.std.proofs.Common.{IfErr, OnOk, subst}
use Rattle.canvas_client.specs.Asked.{HasMade, IsRefusal, refusal}
use Rattle.canvas_client.proofs.client.Client.clear.Goals as goal

pub returns-clause-ok : goal.returns-clause-ok
returns-clause-ok g c = subst (λ r. OnOk c.edit.result (HasMade c.args.self.now r c.edit.new.self)) c.clear-request.ensures c.edit.ensures.ok

pub returns-clause-refused : goal.returns-clause-refused
returns-clause-refused g c = subst (λ r. IfErr c.edit.result (λ error. IsRefusal c.args.self.now r (refusal error))) c.clear-request.ensures c.edit.ensures.refused
