use Rattle.std.proofs.Common.{map, ap, ◌∙◌, arith}
use Rattle.std.proofs.lemmas.List.{take_all}
use Rattle.serde_json.specs.Data.{array}
use Rattle.serde_json.specs.View.{items_of}
use Rattle.etcd_gateway.specs.Trees.{change_tree}
use Rattle.etcd_gateway.proofs.requests.changes_tree.Goals as goal

pub returns : goal.returns
returns c =
    let whole = take_all c.loop-change.change-index c.args.changes.now (omega arith) in
    c.from.ensures ∙ ap (λ ds. array (items_of ds)) (c.loop-change.invariant ∙ ap (map change_tree) whole)
