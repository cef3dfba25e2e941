use Rattle.std.proofs.Common.{rules}
use Rattle.canvas_model.specs.Receive.{after_entry}
use Rattle.std.proofs.Math.Dec.{eqb}
use Rattle.canvas_client.proofs.client.Client.receive_entry.Goals as goal

pub returns-in_default-clause-apart : goal.returns-in_default-clause-apart
returns-in_default-clause-apart g c = (c.args.self.now.view, search rules)

pub returns-then-version-clause-apart : goal.returns-then-version-clause-apart
returns-then-version-clause-apart g c = (c.args.self.now.view, search rules)

pub returns-then-version-gt1-clause-apart : goal.returns-then-version-gt1-clause-apart
returns-then-version-gt1-clause-apart g c = (c.args.self.now.view, search rules)

pub returns-then-not-may_take-clause-apart : goal.returns-then-not-may_take-clause-apart
returns-then-not-may_take-clause-apart g c = (c.args.self.now.view, search rules)

pub returns-clause-apart : goal.returns-clause-apart
returns-clause-apart g c = ((after_entry (eqb c.in-Some.id c.entry.inside.author) c.args.self.now c.args.version c.args.entry.now).view, search rules)
