use Rattle.std.proofs.Common.{◌∙◌}
use Rattle.canvas_world.proofs.Served.{post_running, post_step}
use Rattle.canvas_world.proofs.network.Network.post.Goals as goal

pub invariant_of-self-2 : goal.invariant_of-self-2
invariant_of-self-2 g c = post_running c.every_step.ensures.good _ _ c.args.self.now _ c.args.letter _ c.self.invariant c.self.view_is c.in-Some.is c.requires c.in_ok-push.ensures.items

pub returns-clause-step : goal.returns-clause-step
returns-clause-step g c = post_step _ c.args.self.now _ c.args.letter _ _ c.self.view_is c.in-Some.is c.in_ok-push.ensures.items (c.len.ensures ∙ c.push.new.self.ok.0)
