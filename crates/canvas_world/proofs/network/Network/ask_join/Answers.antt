use Rattle.canvas_model.specs.World as world
use Rattle.canvas_world.proofs.Steps.{sent}
use Rattle.canvas_world.proofs.network.Network.ask_join.Goals as goal

pub returns-clause-step : goal.returns-clause-step
returns-clause-step g c = sent c.post.result c.args.self.now _ (world.AskJoin c.args.k) c.asking-letter.result c.asking-letter.ensures c.post.ensures.step
