use Rattle.std.proofs.Common.{arith, ap, refl, ◌∙◌}
use Rattle.std.proofs.lemmas.List.{take_all}
use Rattle.canvas_value.proofs.Copied.{copied_more}
use Rattle.canvas_tree.specs.Shapes.{Label, forest_of, forest_size}
use Rattle.canvas_tree.proofs.Reading.{tree_below, trees_below, by_branches}
use Rattle.canvas_tree.proofs.tree.+copy.Goals as goal

pub copy_tree-copy_trees-requires : goal.copy_tree-copy_trees-requires
copy_tree-copy_trees-requires g t c κs within =
    let l : Label = record { id = c.tree.inside.id; kind = c.tree.inside.kind; pos = c.tree.inside.pos; props = c.tree.inside.props.items } in
    (omega (arith, trees_below l c.tree.inside.children.items c.args.tree.now c.tree.view_is, ap (λ v. forest_size (forest_of v)) c.deref.ensures.value), within)

pub copy_trees-copy_tree-requires : goal.copy_trees-copy_tree-requires
copy_trees-copy_tree-requires g t c κs within = (omega (arith, tree_below c.args.trees.now c.args.trees.now c.loop-tree.tree-index c.tree-item.result refl c.loop-tree-test.true c.tree-item.is), within)

pub copy_trees-loop-tree-preserved : goal.copy_trees-loop-tree-preserved
copy_trees-loop-tree-preserved g t c = copied_more c.args.trees.now _ _ c.loop-tree.tree-index c.tree-item.result _ c.loop-tree-test.true c.tree-item.is c.loop-tree.invariant c.in_ok-copy.ensures c.in_ok-push.ensures.items

pub copy_trees-returns : goal.copy_trees-returns
copy_trees-returns g t c = c.loop-tree.invariant ∙ take_all c.loop-tree.tree-index c.args.trees.now c.loop-tree-test.false

pub copy_tree-returns : goal.copy_tree-returns
copy_tree-returns g t c = by_branches c.tree.inside.id c.tree.inside.kind _ _ _ _ _ _ c.args.tree.now c.in_ok-pos.ensures (c.in_ok-props.ensures ∙ c.deref-2.ensures.value) (c.in_ok-children.ensures ∙ c.deref.ensures.value) c.tree.view_is
