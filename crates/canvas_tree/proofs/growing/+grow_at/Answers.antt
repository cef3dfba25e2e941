use Rattle.std.proofs.Common.{arith, ◌≡◌, ◌∙◌, ap, sym, refl}
use Rattle.std.specs.Prelude.{None, Some}
use Rattle.std.specs.Option.{option_copied}
use Rattle.canvas_model.specs.Ids.{root}
use Rattle.canvas_tree.specs.Shapes.{forest_of}
use Rattle.canvas_tree.proofs.Rows.{object_of_child, child_below, room_falls}
use Rattle.canvas_tree.proofs.Grown.{parent_in, tops_more, nodes_push, children_all, label_is}
use Rattle.canvas_tree.proofs.growing.+grow_at.Goals as goal

pub unreachable-requires : goal.unreachable-requires
unreachable-requires g t c =
    let e = parent_in c.args.doc.now c.args.id c.deref-child-items.result.now c.in_ok-ids.ids.items c.loop-child.child-index _ c.deref-child-items.ensures.value c.in_ok-ids.ensures c.loop-child-test.true in
    let o = object_of_child c.args.doc.now _ c.args.id e in
    let h : None ≡ Some o.0 = sym (ap option_copied c.in_default.is) ∙ c.object.ensures.object ∙ o.1 in
    cc h

pub grow_at-requires : goal.grow_at-requires
grow_at-requires g t c κs within =
    let e = parent_in c.args.doc.now c.args.id c.deref-child-items.result.now c.in_ok-ids.ids.items c.loop-child.child-index _ c.deref-child-items.ensures.value c.in_ok-ids.ensures c.loop-child-test.true in
    (omega (arith, room_falls c.args.doc.now c.args.id _ c.object.ensures.document c.requires.in_tree e), (within.0, (within.1, (sym c.in-Some.ensures.object, child_below c.args.doc.now _ c.args.id root e c.requires.in_tree))))

pub loop-child-preserved : goal.loop-child-preserved
loop-child-preserved g t c = record {
  same = rw c.in_ok-push.ensures.items (tops_more c.loop-child.children.items c.in_ok-tree.tree c.deref-child-items.result.now c.loop-child.child-index _ c.loop-child-test.true c.loop-child.invariant.same c.in_ok-tree.ensures.at);
  nodes = rw c.in_ok-push.ensures.items (nodes_push c.args.doc.now _ _ _ c.loop-child.invariant.nodes c.in_ok-tree.ensures);
}

pub returns : goal.returns
returns g t c = record {
  at = refl;
  top = record {
    object = label_is c.args.doc.now c.args.id c.args.object.now _ _ _ c.requires.live c.kind.ensures c.in_ok-pos.ensures (c.in_ok-props.ensures ∙ c.props.ensures);
    children = children_all c.args.doc.now c.args.id (forest_of c.loop-child.children.items) c.deref-child-items.result.now c.in_ok-ids.ids.items c.loop-child.child-index c.in_ok-ids.ensures c.deref-child-items.ensures.value c.loop-child.invariant.same c.loop-child-test.false;
  };
  below = c.loop-child.invariant.nodes;
}
