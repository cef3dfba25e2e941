use Rattle.std.proofs.Common.{ap, sym, ◌∙◌, arith}
use Rattle.std.proofs.lemmas.List.{take_all}
use Rattle.serde_json.specs.View.{view}
use Rattle.canvas_codec.specs.ReadList.{read_list}
use Rattle.canvas_codec.proofs.ReadLists.{read_list-more, read_list-none}
use Rattle.canvas_forms.specs.Ids.{id_form}
use Rattle.canvas_forms.proofs.Members.{each_list}
use Rattle.canvas_forms.proofs.outcomes.read_ids.Goals as goal

pub returns-in_default-clause-fault : goal.returns-in_default-clause-fault
returns-in_default-clause-fault g c =
    each_list id_form.read c.args.items.now ∙ read_list-none (λ v. id_form.read (view v)) c.args.items.now c.loop-item.item-index c.item-item.result c.loop-item-test.true (ap (λ v. id_form.read (view v)) (sym c.item-item.is) ∙ sym c.read_id.ensures ∙ c.in_default.is)

pub loop-item-preserved : goal.loop-item-preserved
loop-item-preserved g c =
    rw (← c.in_ok-push.ensures.items) at
    (read_list-more (λ v. id_form.read (view v)) c.args.items.now c.loop-item.item-index c.item-item.result c.loop-item.ids.items c.loop-item.all_fit c.in-Some.id c.in-Some.fits c.loop-item-test.true c.loop-item.invariant (ap (λ v. id_form.read (view v)) (sym c.item-item.is) ∙ sym c.read_id.ensures ∙ c.in-Some.is))

pub returns-clause-ok : goal.returns-clause-ok
returns-clause-ok g c =
    each_list id_form.read c.args.items.now ∙ ap (read_list (λ v. id_form.read (view v))) (sym (take_all c.loop-item.item-index c.args.items.now (omega arith))) ∙ c.loop-item.invariant
