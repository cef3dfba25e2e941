use Rattle.app_admin.proofs.Needless.{torn_and_rest_are_all, torn_are_needless}
use Rattle.app_admin.proofs.laws.every_torn_segment.Goals as goal

pub returns-clause-needless : goal.returns-clause-needless
returns-clause-needless c = torn_are_needless

pub returns-clause-all : goal.returns-clause-all
returns-clause-all c = torn_and_rest_are_all
