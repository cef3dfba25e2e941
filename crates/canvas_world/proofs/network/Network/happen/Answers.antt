use Rattle.std.proofs.Common.{sym, ap, ◌∙◌}
use Rattle.canvas_world.specs.Seen.{seen_event}
use Rattle.canvas_world.proofs.Steps.{played}
use Rattle.canvas_world.proofs.network.Network.happen.Goals as goal

pub returns-in-AskJoin-clause-step : goal.returns-in-AskJoin-clause-step
returns-in-AskJoin-clause-step g c = played c.ask_join.result c.args.self.now _ c.args.event.now _ (sym c.variant.ensures ∙ ap seen_event c.in-AskJoin.is) c.ask_join.ensures.step

pub returns-in-Edit-clause-step : goal.returns-in-Edit-clause-step
returns-in-Edit-clause-step g c = played c.edit.result c.args.self.now _ c.args.event.now _ (sym c.variant.ensures ∙ ap seen_event c.in-Edit.is) c.edit.ensures.step

pub returns-in-Send-clause-step : goal.returns-in-Send-clause-step
returns-in-Send-clause-step g c = played c.send.result c.args.self.now _ c.args.event.now _ (sym c.variant.ensures ∙ ap seen_event c.in-Send.is) c.send.ensures.step

pub returns-in-Take-clause-step : goal.returns-in-Take-clause-step
returns-in-Take-clause-step g c = played c.take.result c.args.self.now _ c.args.event.now _ (sym c.variant.ensures ∙ ap seen_event c.in-Take.is) c.take.ensures.step

pub returns-in-Welcome-clause-step : goal.returns-in-Welcome-clause-step
returns-in-Welcome-clause-step g c = played c.welcome.result c.args.self.now _ c.args.event.now _ (sym c.variant.ensures ∙ ap seen_event c.in-Welcome.is) c.welcome.ensures.step

pub returns-in-Tell-clause-step : goal.returns-in-Tell-clause-step
returns-in-Tell-clause-step g c = played c.tell.result c.args.self.now _ c.args.event.now _ (sym c.variant.ensures ∙ ap seen_event c.in-Tell.is) c.tell.ensures.step

pub returns-in-Copy-clause-step : goal.returns-in-Copy-clause-step
returns-in-Copy-clause-step g c = played c.copy.result c.args.self.now _ c.args.event.now _ (sym c.variant.ensures ∙ ap seen_event c.in-Copy.is) c.copy.ensures.step

pub returns-in-Deliver-clause-step : goal.returns-in-Deliver-clause-step
returns-in-Deliver-clause-step g c = played c.deliver.result c.args.self.now _ c.args.event.now _ (sym c.variant.ensures ∙ ap seen_event c.in-Deliver.is) c.deliver.ensures.step

pub returns-in-Restart-clause-step : goal.returns-in-Restart-clause-step
returns-in-Restart-clause-step g c = played c.restart.result c.args.self.now _ c.args.event.now _ (sym c.variant.ensures ∙ ap seen_event c.in-Restart.is) c.restart.ensures.step
