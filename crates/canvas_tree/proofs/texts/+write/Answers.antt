use Rattle.std.proofs.Common.{arith, refl, ap, ◌∙◌, ◌++◌, ◌+◌}
use Rattle.std.specs.List.{flat_map}
use Rattle.canvas_tree.specs.Shapes.{Label, forest_of, forest_size}
use Rattle.canvas_tree.specs.Texts.{forest_text, prop_line}
use Rattle.canvas_tree.proofs.Reading.{tree_below, trees_below}
use Rattle.canvas_tree.proofs.Lines.{joined, forest_more, tree_written}
use Rattle.canvas_tree.proofs.texts.+write.Goals as goal

pub write_tree-write_trees-requires : goal.write_tree-write_trees-requires
write_tree-write_trees-requires g t c κs within =
    let l : Label = record { id = c.tree.inside.id; kind = c.tree.inside.kind; pos = c.tree.inside.pos; props = c.tree.inside.props.items } in
    (omega (arith, trees_below l c.tree.inside.children.items c.args.tree.now c.tree.view_is, ap (λ v. forest_size (forest_of v)) c.deref-2.ensures.value), within)

pub write_tree-returns : goal.write_tree-returns
write_tree-returns g t c =
    let l : Label = record { id = c.tree.inside.id; kind = c.tree.inside.kind; pos = c.tree.inside.pos; props = c.tree.inside.props.items } in
    let props = c.in_ok-push_props.ensures ∙ ap (λ v. c.write_head.new.out.items ++ flat_map (prop_line (c.args.level + 1)) v) c.deref.ensures.value in
    let below = c.in_ok-write_trees.ensures ∙ ap (λ v. c.push_props.new.out.items ++ forest_text (forest_of v) (c.args.level + 1)) c.deref-2.ensures.value in
    tree_written c.args.level l c.tree.inside.children.items c.args.tree.now
    c.args.out.now.items c.write_head.new.out.items c.push_props.new.out.items c.write_trees.new.out.items
    c.tree.view_is c.in_ok-write_head.ensures.text props below

pub write_trees-write_tree-requires : goal.write_trees-write_tree-requires
write_trees-write_tree-requires g t c κs within = (omega (arith, tree_below c.args.trees.now c.args.trees.now c.loop-tree.tree-index c.tree-item.result refl c.loop-tree-test.true c.tree-item.is), within)

pub write_trees-loop-tree-preserved : goal.write_trees-loop-tree-preserved
write_trees-loop-tree-preserved g t c = joined _ _ _ _ _ _ c.loop-tree.invariant c.in_ok-write_tree.ensures (forest_more c.args.level c.args.trees.now c.loop-tree.tree-index c.tree-item.result c.loop-tree-test.true c.tree-item.is)
