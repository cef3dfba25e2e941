use Rattle.std.proofs.Common.{◌≡◌, get_or, take, sym, subst, ◌∙◌, ap, arith, ◌++◌}
use Rattle.std.proofs.lemmas.List.{take_more, take_all, get_or_default}
use Rattle.canvas_model.specs.declared.ObjId.{ObjId}
use Rattle.canvas_model.specs.Ids.{root}
use Rattle.canvas_model.specs.Children.{AreChildren}
use Rattle.canvas_doc.specs.Levels.{AreUnder}
use Rattle.canvas_doc.proofs.Levels.{under_more}
use Rattle.canvas_doc.proofs.Doc.all_under.Goals as goal

pub loop-parent-preserved : goal.loop-parent-preserved
loop-parent-preserved g c =
    let x = get_or c.args.parents.now c.loop-parent.parent-index root in
    let more = take_more c.args.parents.now c.loop-parent.parent-index root c.loop-parent-test.true in
    let here : AreChildren c.args.self.now x c.in_ok-children.children.items = subst (λ (p : ObjId). AreChildren c.args.self.now p c.in_ok-children.children.items) (get_or_default c.args.parents.now c.loop-parent.parent-index _ root (omega arith)) c.in_ok-children.ensures in
    let added : c.extend_from_slice.new.self.items ≡ c.loop-parent.ids.items ++ c.in_ok-children.children.items = c.in_ok-extend_from_slice.ensures.items ∙ ap (λ l. c.loop-parent.ids.items ++ l) c.deref.ensures.value in
    subst (λ ps. AreUnder c.args.self.now ps c.extend_from_slice.new.self.items) (sym more)
    (under_more c.args.self.now (take c.loop-parent.parent-index c.args.parents.now) c.loop-parent.ids.items c.in_ok-children.children.items c.extend_from_slice.new.self.items x c.loop-parent.invariant here added)

pub returns : goal.returns
returns g c = subst (λ ps. AreUnder c.args.self.now ps c.loop-parent.ids.items) (take_all c.loop-parent.parent-index c.args.parents.now (omega (arith, c.loop-parent-test.false))) c.loop-parent.invariant
