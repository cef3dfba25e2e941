use Rattle.std.proofs.Common.{◌∙◌, rules}
use Rattle.std.specs.Map.{count_at}
use Rattle.canvas_model.specs.declared.ObjId.{ObjId}
use Rattle.canvas_model.specs.Document.{Name}
use Rattle.canvas_pending.specs.Tallied.{of_props, prop_cmp}
use Rattle.canvas_pending.proofs.Counts.{counted}
use Rattle.canvas_pending.proofs.Edges.{edge_by, value_put}
use Rattle.canvas_pending.proofs.PropTallies.{props_total}
use Rattle.canvas_pending.proofs.props.put_count.Goals as goal

pub returns : goal.returns
returns g c =
    let put = c.replace_value_at_edge.ensures in
    let es = c.args.props.now in
    let k : ObjId × Name = (c.args.id, c.args.name.now) in
    put.3 ∙ value_put props_total es c.requires.sorted k put.0 (edge_by prop_cmp es k put.1 (λ e b called. search rules))
    (count_at (of_props es) k) (counted (of_props es k) c.requires.counted) c.args.count
