use Rattle.std.proofs.Common.{rules, Some, option_map, ap, sym, ◌∙◌}
use Rattle.std.proofs.lemmas.Result.{err_from_is_err_and}
use Rattle.serde_json.specs.Data.{array}
use Rattle.serde_json.specs.View.{view, items_view}
use Rattle.canvas_model.specs.Value.{list}
use Rattle.canvas_codec.specs.Parts.{with_fit}
use Rattle.canvas_codec.specs.Json.{read, read_all}
use Rattle.canvas_codec.proofs.DataSizes.{member_size}
use Rattle.canvas_codec.proofs.ReadLists.{read_list-more}
use Rattle.canvas_codec.proofs.Reading.{read_value, read_all_done, read_all_none, refused_part, word_first, list_meant}
use Rattle.canvas_codec.proofs.json.+read.Goals as goal

pub read_items-read-requires : goal.read_items-read-requires
read_items-read-requires g t c κs within = search (rules, member_size c.args.items.now c.loop-item.item-index c.item-item.result c.loop-item-test.true)

pub read_items-returns-in_err-value-clause-fault : goal.read_items-returns-in_err-value-clause-fault
read_items-returns-in_err-value-clause-fault g t c =
    let p = err_from_is_err_and c.from_residual-in_err-value.result c.from_residual-in_err-value.ensures.1 in
    rw (p.1, p.2) (refused_part (read (view c.item-item.result)) (read_all (items_view c.args.items.now)) c.in_err-value.field-0.0 (λ e. read_all_none c.args.items.now c.loop-item.item-index c.item-item.result c.loop-item-test.true (ap read_value (sym c.item-item.is) ∙ e)) c.in_err-value.ensures.fault)

pub read_items-loop-item-preserved : goal.read_items-loop-item-preserved
read_items-loop-item-preserved g t c =
    rw (← c.in_ok-push.ensures.items) at
    (read_list-more read_value c.args.items.now c.loop-item.item-index c.item-item.result c.loop-item.found.items c.loop-item.all_fit c.in_ok-value.value c.in_ok-value.fits c.loop-item-test.true c.loop-item.invariant (ap read_value (sym c.item-item.is) ∙ c.in_ok-value.ensures.ok))

pub read_items-returns-clause-ok : goal.read_items-returns-clause-ok
read_items-returns-clause-ok g t c = read_all_done c.args.items.now c.loop-item.item-index c.loop-item.found.items c.loop-item.all_fit c.loop-item-test.false c.loop-item.invariant

pub read_array-returns-in-Ok-clause-ok : goal.read_array-returns-in-Ok-clause-ok
read_array-returns-in-Ok-clause-ok g t c =
    let first = word_first (items_view c.args.items.now) c.in-Some.word.now (items_view c.in-Some.rest.now) (sym c.in-Some.ensures) in
    list_meant c.args.items.now c.in-Some.rest.now c.in-Some.word.now first (sym c.if-eq.ensures) (sym c.if-eq-2.ensures) ∙ ap (option_map (with_fit list)) c.in-Ok.ensures.ok ∙ ap (λ p. Some (p, c.in-Ok.fit)) (sym c.list.ensures)

pub read_array-returns-in-Err-clause-fault : goal.read_array-returns-in-Err-clause-fault
read_array-returns-in-Err-clause-fault g t c =
    let first = word_first (items_view c.args.items.now) c.in-Some.word.now (items_view c.in-Some.rest.now) (sym c.in-Some.ensures) in
    let meant = list_meant c.args.items.now c.in-Some.rest.now c.in-Some.word.now first (sym c.if-eq.ensures) (sym c.if-eq-2.ensures) in
    refused_part (read_all (items_view c.in-Some.rest.now)) (read (array (items_view c.args.items.now))) c.in-Err.e (λ e. meant ∙ ap (option_map (with_fit list)) e) c.in-Err.ensures.fault
