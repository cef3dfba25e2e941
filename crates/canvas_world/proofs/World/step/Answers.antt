use Rattle.canvas_world.proofs.Synced.{played_keeps}
use Rattle.canvas_world.proofs.World.step.Goals as goal

pub returns-clause-legal : goal.returns-clause-legal
returns-clause-legal g c = c.every_world-2.ensures.claims.legal

pub returns-clause-truth : goal.returns-clause-truth
returns-clause-truth g c = c.every_world-2.ensures.claims.truth

pub returns-clause-ids : goal.returns-clause-ids
returns-clause-ids g c = c.every_world-2.ensures.claims.ids

pub returns-clause-entries : goal.returns-clause-entries
returns-clause-entries g c = c.every_world-2.ensures.claims.entries

pub returns-clause-authors : goal.returns-clause-authors
returns-clause-authors g c = c.every_world-2.ensures.claims.authors

pub returns-clause-acknowledged : goal.returns-clause-acknowledged
returns-clause-acknowledged g c = c.every_world-2.ensures.claims.acknowledged

pub returns-clause-views : goal.returns-clause-views
returns-clause-views g c = c.every_world-2.ensures.claims.views

pub returns-clause-objects : goal.returns-clause-objects
returns-clause-objects g c = c.every_world-2.ensures.claims.objects

pub returns-clause-synced : goal.returns-clause-synced
returns-clause-synced g c = played_keeps c.every_step.ensures.synced c.happen-answer.result _ c.args.self.now _ c.args.event.now c.self.view_is c.every_world.ensures.good c.happen-answer.ensures.step c.happen-answer.ensures.err
