use Rattle.canvas_model.specs.Good.{HasClaims}
use Rattle.canvas_model.specs.Laws.{NodesAgree, HasNoCycle, KeepsAcknowledged}
use Rattle.canvas_world.proofs.Runs.{ran}
use Rattle.canvas_world.proofs.Synced.{keeps_all}
use Rattle.canvas_world.proofs.World.play.Goals as goal

pub returns-clause-claims : goal.returns-clause-claims
returns-clause-claims g c = ran HasClaims c.every_run.ensures.claims _ _ _ c.in_ok-world.ensures c.advance-done.ensures.run

pub returns-clause-agree : goal.returns-clause-agree
returns-clause-agree g c = ran NodesAgree c.every_run.ensures.agree _ _ _ c.in_ok-world.ensures c.advance-done.ensures.run

pub returns-clause-no_cycle : goal.returns-clause-no_cycle
returns-clause-no_cycle g c = ran HasNoCycle c.every_run.ensures.no_cycle _ _ _ c.in_ok-world.ensures c.advance-done.ensures.run

pub returns-clause-kept : goal.returns-clause-kept
returns-clause-kept g c = ran KeepsAcknowledged c.every_run.ensures.kept _ _ _ c.in_ok-world.ensures c.advance-done.ensures.run

pub returns-clause-shows : goal.returns-clause-shows
returns-clause-shows g c = (ran HasClaims c.every_run.ensures.claims _ _ _ c.in_ok-world.ensures c.advance-done.ensures.run).views

pub returns-clause-synced : goal.returns-clause-synced
returns-clause-synced g c = keeps_all c.every_step.ensures.synced c.every_step.ensures.good c.every_run.ensures.good _
