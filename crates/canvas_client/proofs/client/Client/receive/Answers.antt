use Rattle.std.proofs.lemmas.Result.{IfOk-weaker}
use Rattle.canvas_judge.specs.Seen.{seen_message}
use Rattle.canvas_client.specs.Seen.{seen_received}
use Rattle.canvas_client.proofs.Upright.{upright}
use Rattle.canvas_client.proofs.client.Client.receive.Goals as goal

pub returns-clause-stands : goal.returns-clause-stands
returns-clause-stands g c = IfOk-weaker c.respond.result _ _ (λ answer r.
    upright c.args.self.now c.respond.new.self c.view.ensures.kept c.every_view.ensures.taken c.every_view.ensures.copied c.every_view.ensures.welcomed c.every_told_entry.ensures (seen_message c.args.message.now) (seen_received answer) r) c.respond.ensures.receives
