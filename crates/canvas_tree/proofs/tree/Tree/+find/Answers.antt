use Rattle.std.proofs.Common.{arith, ◌∙◌, sym}
use Rattle.canvas_tree.specs.Shapes.{Label}
use Rattle.canvas_tree.proofs.Reading.{by_parts, tree_below, trees_below, found_here, found_not_here}
use Rattle.canvas_tree.proofs.tree.Tree.+find.Goals as goal

pub find-requires : goal.find-requires
find-requires g t c κs within =
    let l : Label = record { id = c.self.inside.id; kind = c.self.inside.kind; pos = c.self.inside.pos; props = c.self.inside.props.items } in
    (omega (arith, trees_below l c.self.inside.children.items c.args.self.now c.self.view_is, tree_below c.self.inside.children.items c.deref-child-items.result.now c.loop-child.child-index c.child-item.result c.deref-child-items.ensures.value c.loop-child-test.true c.child-item.is), within)

pub returns-in-Some : goal.returns-in-Some
returns-in-Some g t c =
    found_here c.args.id _ c.self.inside.children.items c.deref-child-items.result.now c.args.self.now c.loop-child.child-index c.child-item.result c.in-Some.tree.now c.self.view_is c.deref-child-items.ensures.value (sym (by_parts c.self.inside.id c.args.id) ∙ sym c.eq.ensures ∙ c.if-eq.false) c.loop-child.invariant c.loop-child-test.true c.child-item.is c.in-Some.ensures

pub loop-child-preserved : goal.loop-child-preserved
loop-child-preserved g t c = found_not_here c.args.id c.deref-child-items.result.now c.loop-child.child-index c.child-item.result c.loop-child.invariant c.loop-child-test.true c.child-item.is c.in_default.ensures
