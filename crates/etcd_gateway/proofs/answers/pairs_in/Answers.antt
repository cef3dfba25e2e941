use Rattle.std.proofs.Common.{◌∷◌, [], map, ap, sym, ◌∙◌, arith, Some}
use Rattle.std.proofs.lemmas.List.{take_all, map-append}
use Rattle.serde_json.specs.View.{view}
use Rattle.etcd_gateway.specs.Answers.{pair_in, seen_pair}
use Rattle.etcd_gateway.proofs.AnswerLemmas.{each_view, read_each, read_each-more, unread_each}
use Rattle.etcd_gateway.proofs.answers.pairs_in.Goals as goal

pub returns-in-Err-clause-fault : goal.returns-in-Err-clause-fault
returns-in-Err-clause-fault c = unread_each pair_in c.args.items.now c.loop-item.item-index c.item-item.result c.in-Err.e c.loop-item-test.true c.item-item.is c.in-Err.ensures.fault

pub loop-item-preserved : goal.loop-item-preserved
loop-item-preserved c =
    let more = read_each-more (λ v. pair_in (view v)) c.args.items.now c.loop-item.item-index c.item-item.result (map seen_pair c.loop-item.pairs.items) (seen_pair c.in-Ok.pair)
    c.loop-item-test.true c.loop-item.invariant (ap (λ v. pair_in (view v)) (sym c.item-item.is) ∙ c.in-Ok.ensures.ok) in
    more ∙ ap Some (sym (map-append seen_pair c.loop-item.pairs.items (c.in-Ok.pair ∷ [])) ∙ ap (map seen_pair) (sym c.in_ok-push.ensures.items))

pub returns-clause-ok : goal.returns-clause-ok
returns-clause-ok c =
    each_view pair_in c.args.items.now ∙ ap (read_each (λ v. pair_in (view v))) (sym (take_all c.loop-item.item-index c.args.items.now (omega arith))) ∙ c.loop-item.invariant
