use Rattle.std.proofs.Common.{◌≡◌, ◌≤◌, ◌+◌, ◌∙◌, rules, arith, length, take, ap, sym, subst, [], ◌∷◌, ◌++◌}
use Rattle.std.specs.Prelude.{All}
use Rattle.std.proofs.lemmas.List.{take_all, take_more}
use Rattle.canvas_model.specs.Client.{Client}
use Rattle.rally.specs.Rallied.{AgreeWith}
use Rattle.rally.proofs.Rallies.{all_more}
use Rattle.rally.proofs.rallying.agree_with.Goals as goal

pub loop-client-preserved : goal.loop-client-preserved
loop-client-preserved c =
    let agrees : AgreeWith c.args.first.now c.client-item.result = c.agrees_with.ensures.0 (search rules) in
    let more : take (c.loop-client.client-index + 1) c.args.clients.now ≡ take c.loop-client.client-index c.args.clients.now ++ c.client-item.result ∷ [] =
    take_more c.args.clients.now c.loop-client.client-index c.client-item.result c.loop-client-test.true ∙ ap (λ (x : Client). take c.loop-client.client-index c.args.clients.now ++ x ∷ []) (sym c.client-item.is) in
    subst (All (AgreeWith c.args.first.now)) (sym more) (all_more (AgreeWith c.args.first.now) (take c.loop-client.client-index c.args.clients.now) c.client-item.result c.loop-client.invariant agrees)

pub returns : goal.returns
returns c =
    let past : length c.args.clients.now ≤ c.loop-client.client-index = omega arith in
    (λ t. subst (All (AgreeWith c.args.first.now)) (take_all c.loop-client.client-index c.args.clients.now past) c.loop-client.invariant, λ all. search rules)
