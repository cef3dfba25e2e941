use Rattle.std.proofs.Common.{◌++◌, ◌∷◌, [], rules, sym, ap, ◌∙◌}
use Rattle.std.proofs.lemmas.Iterator.Adapters.{YieldsList-from_vec}
use Rattle.std.proofs.lemmas.Iterator.Consumers.{YieldsList-end}
use Rattle.std.proofs.lemmas.List.{map-id}
use Rattle.canvas_client.proofs.parts.pending_of.Goals as goal

pub loop-change-preserved : goal.loop-change-preserved
loop-change-preserved g c = c.in_ok-push.ensures.ok ∙ ap (λ l. l ++ c.in-Some.change ∷ []) c.loop-change.invariant

pub returns : goal.returns
returns g c =
    let end = YieldsList-end (YieldsList-from_vec {s = c.into_iter-change-iterator.result} c.args.changes.items (search rules) (search rules)) c.loop-change.yielded c.loop-change.change-iterator c.loop-change.yielded_by c.next.result c.next.new.self c.in-None.is c.next.ensures.steps in
    c.loop-change.invariant ∙ sym (map-id c.loop-change.yielded) ∙ end.0
