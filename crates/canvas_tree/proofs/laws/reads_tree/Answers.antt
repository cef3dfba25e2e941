use Rattle.canvas_tree.proofs.Ways.{chains_below, paths_are_chains, found_are_trees}
use Rattle.canvas_tree.proofs.laws.reads_tree.Goals as goal

pub returns-clause-chains : goal.returns-clause-chains
returns-clause-chains c = λ d q o. chains_below d q o

pub returns-clause-path : goal.returns-clause-path
returns-clause-path c = λ d t h q. paths_are_chains d t h q

pub returns-clause-found : goal.returns-clause-found
returns-clause-found c = λ d t h q. found_are_trees d t h q
