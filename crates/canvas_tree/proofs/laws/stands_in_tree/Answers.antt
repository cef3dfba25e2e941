use Rattle.canvas_model.specs.Ids.{root}
use Rattle.canvas_tree.specs.Shapes.{branch_ids}
use Rattle.canvas_tree.proofs.Members.{in_from, in_to}
use Rattle.canvas_tree.proofs.Stands.{stands_below, below_stands, size_counts}
use Rattle.canvas_tree.proofs.Once.{tree_distinct}
use Rattle.canvas_tree.proofs.laws.stands_in_tree.Goals as goal

pub returns-clause-in_tree : goal.returns-clause-in_tree
returns-clause-in_tree c = λ d t h q. (λ k. stands_below d root t h q (in_from (branch_ids t) q k), λ b. in_to (branch_ids t) q (below_stands d t q root h b))

pub returns-clause-once : goal.returns-clause-once
returns-clause-once c = λ d t is h. tree_distinct d is t h

pub returns-clause-size : goal.returns-clause-size
returns-clause-size c = λ t. size_counts t
