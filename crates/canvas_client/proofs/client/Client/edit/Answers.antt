use Rattle.canvas_client.proofs.client.Client.edit.Goals as goal

pub commit-requires : goal.commit-requires
commit-requires g c = (c.args.request.now, c.in_ok-change.ensures.ok)

pub returns-clause-ok : goal.returns-clause-ok
returns-clause-ok g c = (c.in_ok-change.change, c.in_ok-change.ensures.ok, c.in_ok-number.ensures.ok)
