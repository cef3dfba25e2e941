use Rattle.std.proofs.Common.{◌≡◌, ◌∷◌, [], ◌++◌, ◌∙◌, sym, ap, subst, arith}
use Rattle.std.specs.Prelude.{None, Some}
use Rattle.std.specs.Option.{option_copied}
use Rattle.canvas_model.specs.Ids.{root}
use Rattle.canvas_embed.specs.Trees.{pending_at}
use Rattle.canvas_embed.proofs.Stacks.{Rests, begins, popped, next_live, steps, ends, all_written}
use Rattle.canvas_embed.proofs.trees.text_of.Goals as goal

pub loop-init : goal.loop-init
loop-init c =
    let d = c.args.doc.now in let t = c.one_tree.ensures.some d c.objects-objects.ensures.document in
    let first : c.push.new.self.items ≡ pending_at 0 root ∷ [] = c.in_ok-push.ensures.items ∙ ap (λ v. v ++ pending_at 0 root ∷ []) c.new-pending.ensures.items in
    subst (λ v. Rests d 0 v c.new-text.result.items) (sym first) (subst (Rests d 0 (pending_at 0 root ∷ [])) (sym c.new-text.ensures.items) (begins d t.0 t.1))

pub returns-in_default : goal.returns-in_default
returns-in_default c = ends c.args.doc.now c.loop.counter c.loop.pending.items c.loop.text.items (omega (arith, c.loop.pending.ok.0, c.in_default.ensures.cases.0)) c.loop.invariant

pub unreachable-requires : goal.unreachable-requires
unreachable-requires c =
    let d = c.args.doc.now in let next = c.in-Some.next in let text = c.loop.text.items in
    let p = popped d c.loop.counter c.loop.pending.items c.pop.new.self.items next text c.loop.invariant c.in-Some.ensures.items in
    let o = next_live d c.loop.counter c.pop.new.self.items next text p in
    let h : None ≡ Some o.0 = sym (ap option_copied c.in_default-object.is) ∙ c.object.ensures.object ∙ o.1 in cc h

pub push_children-requires : goal.push_children-requires
push_children-requires c =
    let p = popped c.args.doc.now c.loop.counter c.loop.pending.items c.pop.new.self.items c.in-Some.next c.loop.text.items c.loop.invariant c.in-Some.ensures.items in
    omega (arith, ap (λ v. v.level) p.top, p.high, c.loop-test.true, c.len-end.type_inv)

pub loop-preserved : goal.loop-preserved
loop-preserved c =
    let p = popped c.args.doc.now c.loop.counter c.loop.pending.items c.pop.new.self.items c.in-Some.next c.loop.text.items c.loop.invariant c.in-Some.ensures.items in
    steps c.args.doc.now c.loop.counter c.pop.new.self.items c.push_children.new.pending.items c.in-Some.next c.loop.text.items c.write_object.new.out.items c.in-Some-object.object.now p (sym c.in-Some-object.ensures.object)
    c.in_ok-write_object.ensures c.in_ok-push_children.ensures

pub returns : goal.returns
returns c = all_written c.args.doc.now c.loop.counter c.loop.pending.items c.loop.text.items c.objects-objects.ensures.document c.stands_in_tree.ensures.in_tree c.stands_in_tree.ensures.once c.stands_in_tree.ensures.size
    (omega (arith, c.len-end.ensures, c.loop-test.false)) c.loop.invariant
