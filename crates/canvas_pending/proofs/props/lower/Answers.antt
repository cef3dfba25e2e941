use Rattle.std.proofs.Common.{◌≡◌, ◌-◌, ◌∙◌, rules, arith}
use Rattle.canvas_pending.specs.Tallied.{prop_cmp}
use Rattle.canvas_pending.proofs.Edges.{edge_by}
use Rattle.canvas_pending.proofs.PropTallies.{less_no_zero, less_sorted, lowered_out, lowered_to, prop_it, put_no_zero, put_sorted, taken_out_there}
use Rattle.canvas_pending.proofs.props.lower.Goals as goal

pub returns-then-count-gt1-clause-lowered : goal.returns-then-count-gt1-clause-lowered
returns-then-count-gt1-clause-lowered g c =
    lowered_to c.args.id c.args.name c.args.props.now c.requires.sorted c.count-count.result c.count-count.ensures c.put_count.new.props (c.count-count.result - 1) c.put_count.ensures (omega arith)

pub returns-then-count-gt1-clause-sorted : goal.returns-then-count-gt1-clause-sorted
returns-then-count-gt1-clause-sorted g c = put_sorted c.args.id c.args.name c.args.props.now c.put_count.new.props c.requires.sorted (c.count-count.result - 1) c.put_count.ensures

pub returns-then-count-gt1-clause-no_zero : goal.returns-then-count-gt1-clause-no_zero
returns-then-count-gt1-clause-no_zero g c =
    put_no_zero c.args.id c.args.name c.args.props.now c.put_count.new.props c.requires.sorted (c.count-count.result - 1) c.put_count.ensures
    (λ e. let none_left : c.count-count.result - 1 ≡ 0 = cc in absurd (omega (arith, none_left))) c.requires.no_zero

pub returns-clause-lowered : goal.returns-clause-lowered
returns-clause-lowered g c =
    let es = c.args.props.now in
    let at = c.remove_at_edge.ensures in
    let some = c.requires.counted (c.args.id, c.args.name) (prop_it c.args.id c.args.name) in
    let one : c.count-count.result ≡ 1 = omega (arith, some, c.count-count.ensures) in
    let gone = at.3 ∙ taken_out_there c.args.id c.args.name es c.requires.sorted c.count-count.result c.count-count.ensures at.0 (edge_by prop_cmp es (c.args.id, c.args.name) at.1 (λ e b called. search rules)) one in
    lowered_out c.args.id c.args.name es c.requires.sorted c.count-count.result c.count-count.ensures c.remove_at_edge.new.self gone one

pub returns-clause-sorted : goal.returns-clause-sorted
returns-clause-sorted g c =
    let es = c.args.props.now in
    let at = c.remove_at_edge.ensures in
    let some = c.requires.counted (c.args.id, c.args.name) (prop_it c.args.id c.args.name) in
    let one : c.count-count.result ≡ 1 = omega (arith, some, c.count-count.ensures) in
    let gone = at.3 ∙ taken_out_there c.args.id c.args.name es c.requires.sorted c.count-count.result c.count-count.ensures at.0 (edge_by prop_cmp es (c.args.id, c.args.name) at.1 (λ e b called. search rules)) one in
    less_sorted c.args.id c.args.name es c.remove_at_edge.new.self c.requires.sorted gone

pub returns-clause-no_zero : goal.returns-clause-no_zero
returns-clause-no_zero g c =
    let es = c.args.props.now in
    let at = c.remove_at_edge.ensures in
    let some = c.requires.counted (c.args.id, c.args.name) (prop_it c.args.id c.args.name) in
    let one : c.count-count.result ≡ 1 = omega (arith, some, c.count-count.ensures) in
    let gone = at.3 ∙ taken_out_there c.args.id c.args.name es c.requires.sorted c.count-count.result c.count-count.ensures at.0 (edge_by prop_cmp es (c.args.id, c.args.name) at.1 (λ e b called. search rules)) one in
    less_no_zero c.args.id c.args.name es c.remove_at_edge.new.self c.requires.sorted gone c.requires.no_zero
