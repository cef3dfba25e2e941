use Rattle.canvas_world.proofs.Synced.{run_keeps}
use Rattle.canvas_world.proofs.World.advance.Goals as goal

pub returns-clause-shows : goal.returns-clause-shows
returns-clause-shows g c = c.every_world-2.ensures.claims.views

pub returns-clause-synced : goal.returns-clause-synced
returns-clause-synced g c = run_keeps c.every_step.ensures.synced c.every_step.ensures.good _ _ _ c.advance_each-played.ensures.run c.every_world.ensures.good
