use Rattle.std.proofs.Common.{arith, ap, refl, sym, ◌∙◌}
use Rattle.canvas_value.proofs.Copied.{same_more}
use Rattle.canvas_tree.specs.Shapes.{Label, forest_of, forest_size}
use Rattle.canvas_tree.proofs.Reading.{tree_below, trees_below, same_branch}
use Rattle.canvas_tree.proofs.tree.+same.Goals as goal

pub same_tree-same_trees-requires : goal.same_tree-same_trees-requires
same_tree-same_trees-requires g t c κs within =
    let l : Label = record { id = c.one.inside.id; kind = c.one.inside.kind; pos = c.one.inside.pos; props = c.one.inside.props.items } in
    (omega (arith, trees_below l c.one.inside.children.items c.args.one.now c.one.view_is, ap (λ v. forest_size (forest_of v)) c.deref.ensures.value), within)

pub same_trees-same_tree-requires : goal.same_trees-same_tree-requires
same_trees-same_tree-requires g t c κs within = (omega (arith, tree_below c.args.ones.now c.args.ones.now c.loop-i.i c.index-ones-i.result refl (omega arith) c.index-ones-i.is), within)

pub same_tree-returns-then-same_label : goal.same_tree-returns-then-same_label
same_tree-returns-then-same_label g t c =
    let b = same_branch _ _ c.one.inside.children.items c.other.inside.children.items c.args.one.now c.args.other.now c.one.view_is c.other.view_is (c.if-same_label.ensures.0 refl) in
    (λ y. b.0 (sym c.deref.ensures.value ∙ c.same_trees.ensures.0 y ∙ c.deref-then-same_label.ensures.value), λ e. c.same_trees.ensures.1 (c.deref.ensures.value ∙ b.1 e ∙ sym c.deref-then-same_label.ensures.value))

pub same_trees-loop-i-preserved : goal.same_trees-loop-i-preserved
same_trees-loop-i-preserved g t c = (
  same_more c.args.ones.now c.args.others.now c.loop-i.i c.index-ones-i.result c.index-others-i.result c.loop-i-test.true (omega (arith, c.loop-i.invariant.1)) c.index-ones-i.is c.index-others-i.is (c.same_tree.ensures.0 c.if-not-same_tree.false) c.loop-i.invariant.0,
  c.loop-i.invariant.1,
)
