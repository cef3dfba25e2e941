use Rattle.std.proofs.Common.{true≢false, ◌≡◌, ◌<◌, ◌++◌, ◌∷◌, [], All, length, map, ap, sym, subst, ◌∙◌, rules}
use Rattle.std.proofs.lemmas.List.{map-append, length-map}
use Rattle.std.proofs.lemmas.Iterator.Adapters.{YieldsList-from_vec}
use Rattle.std.proofs.lemmas.Iterator.Consumers.{YieldsList-turn}
use Rattle.std.proofs.Math.ListN.{get_or-map}
use Rattle.canvas_model.specs.Change.{HoldsShallow}
use Rattle.canvas_doc.specs.Seen.{seen}
use Rattle.canvas_embed.proofs.Saved.{shallow_more}
use Rattle.canvas_embed.proofs.saves.finish_waiting.Goals as goal

pub returns-in_default-clause-fault : goal.returns-in_default-clause-fault
returns-in_default-clause-fault c = λ all.
    let vs = c.args.variants.items in let v = c.in-Some.variant in let n = length c.loop-variant.yielded in
    let turn = YieldsList-turn (YieldsList-from_vec {s = c.into_iter-variant-iterator.result} vs (search rules) (search rules)) c.loop-variant.yielded c.loop-variant.variant-iterator c.loop-variant.yielded_by c.next.result c.next.new.self v c.in-Some.is c.next.ensures.steps in
    let lt : n < length (map seen vs) = subst (λ k. n < k) (sym (length-map vs seen)) turn.0 in
    let holds : HoldsShallow (seen v) = subst HoldsShallow (get_or-map seen vs n v ∙ ap seen (sym turn.1)) (all n (seen v) lt) in
    true≢false (sym (c.in_default.ensures.shallow.1 holds))

pub loop-variant-preserved : goal.loop-variant-preserved
loop-variant-preserved c =
    let v = c.in-Some.variant in
    let more : map seen (c.loop-variant.yielded ++ v ∷ []) ≡ map seen c.loop-variant.yielded ++ seen v ∷ [] = map-append seen c.loop-variant.yielded (v ∷ []) in
    let holds : HoldsShallow (seen v) = search rules in
    record {
      made = c.in-Ok-push.ensures.items ∙ ap (λ l. l ++ c.in-Ok.change ∷ []) c.loop-variant.invariant.made ∙ ap (λ x. map seen c.loop-variant.yielded ++ x ∷ []) c.in-Ok.ensures.ok ∙ sym more;
      shallow = subst (All HoldsShallow) (sym more) (shallow_more (map seen c.loop-variant.yielded) (seen v) c.loop-variant.invariant.shallow holds);
    }
