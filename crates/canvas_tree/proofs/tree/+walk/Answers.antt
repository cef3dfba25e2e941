use Rattle.std.proofs.Common.{arith, ap, refl, sym, subst, ◌∙◌, ◌++◌, true, false}
use Rattle.std.specs.Vec.{vec_len}
use Rattle.canvas_tree.specs.Shapes.{Label, forest_of, forest_size}
use Rattle.canvas_tree.specs.Reads.{Walked, path, path_in}
use Rattle.canvas_tree.proofs.Reading.{by_parts, tree_below, trees_below, path_here, path_not_here, walked_below, walked_back}
use Rattle.canvas_tree.proofs.tree.+walk.Goals as goal

pub walk-walk_among-requires : goal.walk-walk_among-requires
walk-walk_among-requires g t c κs within =
    let l : Label = record { id = c.tree.inside.id; kind = c.tree.inside.kind; pos = c.tree.inside.pos; props = c.tree.inside.props.items } in
    (omega (arith, trees_below l c.tree.inside.children.items c.args.tree.now c.tree.view_is, ap (λ v. forest_size (forest_of v)) c.deref.ensures.value), within)

pub walk_among-walk-requires : goal.walk_among-walk-requires
walk_among-walk-requires g t c κs within = (omega (arith, tree_below c.args.trees.now c.args.trees.now c.loop-tree.tree-index c.tree-item.result refl c.loop-tree-test.true c.tree-item.is), within)

pub walk_among-returns-then-branch : goal.walk_among-returns-then-branch
walk_among-returns-then-branch g t c =
    let w : Walked true (path c.args.id c.tree-item.result) c.loop-tree.ids.items c.walk.new.ids.items = subst (λ b. Walked b (path c.args.id c.tree-item.result) c.loop-tree.ids.items c.walk.new.ids.items) c.if-branch.true c.in_ok-walk.ensures in
    (w.0, path_here c.args.id c.args.trees.now c.args.trees.now c.loop-tree.tree-index c.tree-item.result w.0 refl c.loop-tree.invariant.1 c.loop-tree-test.true c.tree-item.is w.1, w.2 ∙ ap (λ v. v ++ w.0) c.loop-tree.invariant.0)

pub walk_among-loop-tree-preserved : goal.walk_among-loop-tree-preserved
walk_among-loop-tree-preserved g t c =
    let w : Walked false (path c.args.id c.tree-item.result) c.loop-tree.ids.items c.walk.new.ids.items = subst (λ b. Walked b (path c.args.id c.tree-item.result) c.loop-tree.ids.items c.walk.new.ids.items) c.if-branch.false c.in_ok-walk.ensures in
    (w.1 ∙ c.loop-tree.invariant.0, path_not_here c.args.id c.args.trees.now c.loop-tree.tree-index c.tree-item.result c.loop-tree.invariant.1 c.loop-tree-test.true c.tree-item.is w.0)

pub walk-returns-then-branch : goal.walk-returns-then-branch
walk-returns-then-branch g t c =
    let l : Label = record { id = c.tree.inside.id; kind = c.tree.inside.kind; pos = c.tree.inside.pos; props = c.tree.inside.props.items } in
    let below = path_in c.args.id (forest_of c.tree.inside.children.items) in
    let same = ap (λ v. path_in c.args.id (forest_of v)) c.deref.ensures.value in
    let w : Walked true below c.push.new.self.items c.walk_among.new.ids.items = subst (λ b. Walked b below c.push.new.self.items c.walk_among.new.ids.items) c.if-branch.true (subst (λ p. Walked c.in_ok-walk_among.field-0 p c.push.new.self.items c.walk_among.new.ids.items) same c.in_ok-walk_among.ensures) in
    walked_below c.args.id l c.tree.inside.children.items c.args.tree.now c.args.ids.now.items c.push.new.self.items c.walk_among.new.ids.items
    c.tree.view_is (sym (by_parts c.tree.inside.id c.args.id) ∙ sym c.eq.ensures ∙ c.if-eq.false) c.in_ok-push.ensures.items w

pub walk-returns : goal.walk-returns
walk-returns g t c =
    let l : Label = record { id = c.tree.inside.id; kind = c.tree.inside.kind; pos = c.tree.inside.pos; props = c.tree.inside.props.items } in
    let below = path_in c.args.id (forest_of c.tree.inside.children.items) in
    let same = ap (λ v. path_in c.args.id (forest_of v)) c.deref.ensures.value in
    let w : Walked false below c.push.new.self.items c.walk_among.new.ids.items = subst (λ b. Walked b below c.push.new.self.items c.walk_among.new.ids.items) c.if-branch.false (subst (λ p. Walked c.in_ok-walk_among.field-0 p c.push.new.self.items c.walk_among.new.ids.items) same c.in_ok-walk_among.ensures) in
    walked_back c.args.id l c.tree.inside.children.items c.args.tree.now c.args.ids.now.items c.push.new.self.items c.walk_among.new.ids.items c.pop.new.self.items (vec_len c.walk_among.new.ids)
    c.tree.view_is (sym (by_parts c.tree.inside.id c.args.id) ∙ sym c.eq.ensures ∙ c.if-eq.false) c.in_ok-push.ensures.items w c.walk_among.new.ids.ok.0 c.pop.ensures.rest
