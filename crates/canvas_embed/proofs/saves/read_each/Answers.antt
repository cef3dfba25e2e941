use Rattle.std.proofs.Common.{◌≡◌, map, ap, sym, ◌∙◌, ◌∷◌, ◌++◌, [], arith}
use Rattle.std.proofs.lemmas.List.{take_all, map-append}
use Rattle.serde_json.specs.View.{view, items_view}
use Rattle.canvas_codec.specs.ReadList.{read_list}
use Rattle.canvas_codec.specs.Parts.{each_in}
use Rattle.canvas_codec.proofs.ReadLists.{read_list-more, read_list-none}
use Rattle.canvas_codec.proofs.Reading.{refused_part}
use Rattle.canvas_doc.specs.Seen.{seen}
use Rattle.canvas_forms.specs.Changes.{change_form}
use Rattle.canvas_forms.proofs.Members.{each_list}
use Rattle.canvas_embed.proofs.saves.read_each.Goals as goal

pub returns-in-Err-clause-fault : goal.returns-in-Err-clause-fault
returns-in-Err-clause-fault c =
    refused_part (change_form.read (view c.item-item.result)) (each_in change_form.read (items_view c.args.items.now)) c.in-Err.fault
    (λ none. each_list change_form.read c.args.items.now ∙ read_list-none (λ v. change_form.read (view v)) c.args.items.now c.loop-item.item-index c.item-item.result c.loop-item-test.true (ap (λ v. change_form.read (view v)) (sym c.item-item.is) ∙ none))
    c.in-Err.ensures.fault

pub loop-item-preserved : goal.loop-item-preserved
loop-item-preserved c =
    let more : map seen c.push.new.self.items ≡ map seen c.loop-item.changes.items ++ seen c.in-Ok.read.0 ∷ [] = ap (map seen) c.in_ok-push.ensures.items ∙ map-append seen c.loop-item.changes.items (c.in-Ok.read.0 ∷ []) in
    rw (← more) at
    (read_list-more (λ v. change_form.read (view v)) c.args.items.now c.loop-item.item-index c.item-item.result (map seen c.loop-item.changes.items) c.loop-item.all_fit (seen c.in-Ok.read.0) c.in-Ok.read.1 c.loop-item-test.true c.loop-item.invariant (ap (λ v. change_form.read (view v)) (sym c.item-item.is) ∙ c.in-Ok.ensures.ok))

pub returns-clause-ok : goal.returns-clause-ok
returns-clause-ok c =
    each_list change_form.read c.args.items.now ∙ ap (read_list (λ v. change_form.read (view v))) (sym (take_all c.loop-item.item-index c.args.items.now (omega arith))) ∙ c.loop-item.invariant
