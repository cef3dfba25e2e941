use Rattle.canvas_model.specs.Ids.{root}
use Rattle.canvas_tree.proofs.Some.{tree_there}
use Rattle.canvas_tree.proofs.One.{tree_one}
use Rattle.canvas_tree.proofs.laws.one_tree.Goals as goal

pub returns-clause-some : goal.returns-clause-some
returns-clause-some c = λ d is. tree_there d is

pub returns-clause-one : goal.returns-clause-one
returns-clause-one c = λ d t u a b. tree_one d root t u a b
