use Rattle.std.proofs.Common.{◌≡◌, ◌+◌, ◌∙◌, T, refl, rules, subst, sym, arith}
use Rattle.std.specs.FinMap as map
use Rattle.std.proofs.lemmas.Result.{on_err_weaker, on_ok_weaker}
use Rattle.canvas_pending.specs.Tallied.{HasNoZero, of_props, prop_cmp}
use Rattle.canvas_pending.proofs.Edges.{edge_by}
use Rattle.canvas_pending.proofs.PropTallies.{put_in, put_no_zero, put_sorted, raised_to}
use Rattle.canvas_pending.proofs.Tests.{either_way, risen}
use Rattle.canvas_pending.proofs.props.raise.Goals as goal

pub returns-then-more-eq1-clause-ok : goal.returns-then-more-eq1-clause-ok
returns-then-more-eq1-clause-ok g c =
    let es = c.args.props.now in
    let name = c.args.name.now in
    let up : 1 ≡ c.count.result + 1 = sym c.if-more-eq1.true ∙ c.in-Some.ensures.1 in
    on_ok_weaker c.insert_at_edge.result (λ at. raised_to c.args.id name es c.requires.sorted c.count.result c.count.ensures c.insert_at_edge.new.self 1
    (at.2 ∙ put_in c.args.id name es c.requires.sorted c.count.result c.count.ensures at.0 (edge_by prop_cmp es (c.args.id, name) at.1 (λ e b called. search rules)) c.requires.no_zero c.in_ok-copy_in.field-0 c.in_ok-copy_in.ensures (omega (arith, up)))
    up) c.insert_at_edge.ensures.ok

pub returns-then-more-eq1-clause-sorted : goal.returns-then-more-eq1-clause-sorted
returns-then-more-eq1-clause-sorted g c =
    let es = c.args.props.now in
    let name = c.args.name.now in
    let up : 1 ≡ c.count.result + 1 = sym c.if-more-eq1.true ∙ c.in-Some.ensures.1 in
    either_way c.insert_at_edge.result (on_ok_weaker c.insert_at_edge.result (λ at. put_sorted c.args.id name es c.insert_at_edge.new.self c.requires.sorted 1
    (at.2 ∙ put_in c.args.id name es c.requires.sorted c.count.result c.count.ensures at.0 (edge_by prop_cmp es (c.args.id, name) at.1 (λ e b called. search rules)) c.requires.no_zero c.in_ok-copy_in.field-0 c.in_ok-copy_in.ensures (omega (arith, up)))) c.insert_at_edge.ensures.ok)
    (on_err_weaker c.insert_at_edge.result (λ is. subst (λ tallies. T (map.is_sorted prop_cmp tallies)) (sym is) c.requires.sorted) c.insert_at_edge.ensures.err)

pub returns-then-more-eq1-clause-no_zero : goal.returns-then-more-eq1-clause-no_zero
returns-then-more-eq1-clause-no_zero g c =
    let es = c.args.props.now in
    let name = c.args.name.now in
    let up : 1 ≡ c.count.result + 1 = sym c.if-more-eq1.true ∙ c.in-Some.ensures.1 in
    either_way c.insert_at_edge.result (on_ok_weaker c.insert_at_edge.result (λ at. put_no_zero c.args.id name es c.insert_at_edge.new.self c.requires.sorted 1
    (at.2 ∙ put_in c.args.id name es c.requires.sorted c.count.result c.count.ensures at.0 (edge_by prop_cmp es (c.args.id, name) at.1 (λ e b called. search rules)) c.requires.no_zero c.in_ok-copy_in.field-0 c.in_ok-copy_in.ensures (omega (arith, up)))
    (risen 1 0 refl) c.requires.no_zero) c.insert_at_edge.ensures.ok)
    (on_err_weaker c.insert_at_edge.result (λ is. subst (λ tallies. HasNoZero (of_props tallies)) (sym is) c.requires.no_zero) c.insert_at_edge.ensures.err)

pub returns-clause-ok : goal.returns-clause-ok
returns-clause-ok g c = raised_to c.args.id c.args.name.now c.args.props.now c.requires.sorted c.count.result c.count.ensures c.put_count.new.props c.in-Some.more c.put_count.ensures c.in-Some.ensures.1

pub returns-clause-sorted : goal.returns-clause-sorted
returns-clause-sorted g c = put_sorted c.args.id c.args.name.now c.args.props.now c.put_count.new.props c.requires.sorted c.in-Some.more c.put_count.ensures

pub returns-clause-no_zero : goal.returns-clause-no_zero
returns-clause-no_zero g c = put_no_zero c.args.id c.args.name.now c.args.props.now c.put_count.new.props c.requires.sorted c.in-Some.more c.put_count.ensures (risen c.in-Some.more c.count.result c.in-Some.ensures.1) c.requires.no_zero
