use Rattle.etcd_gateway.proofs.ChangeLemmas.{commit_has_no_float, commit_is_shallow}
use Rattle.etcd_gateway.proofs.requests.ask_commit.Goals as goal

pub post_tree-requires-clause-whole : goal.post_tree-requires-clause-whole
post_tree-requires-clause-whole c = rw c.in_ok-tree.ensures (commit_has_no_float c.args.key.now c.args.expected c.args.changes.now)

pub post_tree-requires-clause-shallow : goal.post_tree-requires-clause-shallow
post_tree-requires-clause-shallow c = rw c.in_ok-tree.ensures (commit_is_shallow c.args.key.now c.args.expected c.args.changes.now)
