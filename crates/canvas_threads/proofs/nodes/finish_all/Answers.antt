use Rattle.std.proofs.Common.{◌≡◌, ◌++◌, ◌∷◌, [], length, rules, ap, subst, arith}
use Rattle.std.specs.Prelude.{All, IsSome}
use Rattle.std.proofs.lemmas.Grind.{common_steps}
use Rattle.std.proofs.lemmas.List.Elements.{All-head, All-tail}
use Rattle.std.specs.Vec.Iter.{into_iter_items}
use Rattle.canvas_threads.specs.Shown.{Ends}
use Rattle.canvas_threads.specs.Worked.{Beside}
use Rattle.canvas_threads.proofs.Lists.{complete, pushed}
use Rattle.canvas_threads.proofs.nodes.finish_all.Goals as goal

pub returns : goal.returns
returns g c =
    let left = c.loop-done.invariant.left in
    let none = c.in-None.ensures.steps in
    let from = into_iter_items c.into_iter-done-iterator.result in
    let same : from ≡ c.args.all.items = first_of (search rules, grind (arith, common_steps)) in
    subst (λ xs. Beside (λ done client. Ends g.S.Site.follows g.S.Site.shows done.site done.client client) xs c.loop-done.clients.items) same
    (complete (λ done client. Ends g.S.Site.follows g.S.Site.shows done.site done.client client) from (into_iter_items c.loop-done.done-iterator) c.loop-done.clients.items (omega (arith, left, none.0)) c.loop-done.invariant.ended)

pub loop-done-preserved : goal.loop-done-preserved
loop-done-preserved g c =
    let left = c.loop-done.invariant.left in
    let steps = c.in-Some.ensures.steps in
    let more : c.push.new.self.items ≡ c.loop-done.clients.items ++ c.in_ok-client.client ∷ [] = first_of (search rules, grind (arith, common_steps)) in
    let joined = subst (All (λ done. IsSome done.client.id)) steps.0 c.loop-done.invariant.joined in
    record {
      ended = pushed (λ done client. Ends g.S.Site.follows g.S.Site.shows done.site done.client client)
          (into_iter_items c.into_iter-done-iterator.result) (into_iter_items c.loop-done.done-iterator) (into_iter_items c.next.new.self) c.loop-done.clients.items c.push.new.self.items c.in-Some.done c.in_ok-client.client steps.0 more (c.in_ok-client.ensures.same, c.in_ok-client.ensures.shows) c.loop-done.invariant.ended;
      left = let l = ap length steps.0 in omega (arith, left, steps.1, l);
      joined = All-tail (λ done. IsSome done.client.id) c.in-Some.done (into_iter_items c.next.new.self) joined;
    }

pub finish-requires : goal.finish-requires
finish-requires g c =
    let joined = subst (All (λ done. IsSome done.client.id)) c.in-Some.ensures.steps.0 c.loop-done.invariant.joined in
    All-head (λ done. IsSome done.client.id) c.in-Some.done (into_iter_items c.next.new.self) joined
