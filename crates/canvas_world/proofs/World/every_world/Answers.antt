use Rattle.std.proofs.Common.{subst}
use Rattle.canvas_model.specs.Good.{IsGood}
use Rattle.canvas_world.proofs.Trees.{agreed_trees}
use Rattle.canvas_world.proofs.World.every_world.Goals as goal

pub returns-clause-claims : goal.returns-clause-claims
returns-clause-claims g c = c.every_good_world.ensures.claims _ (subst IsGood c.self.view_is c.synced.ensures.good)

pub returns-clause-agree : goal.returns-clause-agree
returns-clause-agree g c = c.every_good_world.ensures.agree _ (subst IsGood c.self.view_is c.synced.ensures.good)

pub returns-clause-no_cycle : goal.returns-clause-no_cycle
returns-clause-no_cycle g c = c.every_good_world.ensures.no_cycle _ (subst IsGood c.self.view_is c.synced.ensures.good)

pub returns-clause-kept : goal.returns-clause-kept
returns-clause-kept g c = c.every_good_world.ensures.kept _ (subst IsGood c.self.view_is c.synced.ensures.good)

pub returns-clause-trees : goal.returns-clause-trees
returns-clause-trees g c = agreed_trees c.one_tree.ensures.one _ (c.every_good_world.ensures.agree _ (subst IsGood c.self.view_is c.synced.ensures.good))
