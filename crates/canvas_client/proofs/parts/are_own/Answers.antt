use Rattle.std.proofs.Common.{◌≡◌, ◌&&◌, ◌++◌, ◌∷◌, [], List, ap, sym, subst, ◌∙◌, rules}
use Rattle.std.specs.Prelude.{◌↔◌, IsTrue, reverse}
use Rattle.std.specs.Prelude.{map as list_map}
use Rattle.std.specs.List.{list_any}
use Rattle.std.proofs.lemmas.Iterator.Adapters.{YieldsList-from_rev_slice}
use Rattle.std.proofs.lemmas.Iterator.Consumers.{YieldsList-end}
use Rattle.std.proofs.lemmas.List.{map-append, reverse-append, reverse-reverse}
use Rattle.canvas_model.specs.Change.{Change}
use Rattle.canvas_model.specs.Standing.{AreOwn}
use Rattle.canvas_model.specs.View.{creates_it}
use Rattle.canvas_client.proofs.Owning.{own_more, tells_more}
use Rattle.canvas_client.proofs.parts.are_own.Goals as goal

pub loop-change-preserved : goal.loop-change-preserved
loop-change-preserved g c =
    let rest : List Change = reverse (list_map (λ x. x.now) c.loop-change.yielded) in let change : Change = c.in-Some.change.now in
    let same : reverse (list_map (λ x. x.now) (c.loop-change.yielded ++ c.in-Some.change ∷ [])) ≡ change ∷ rest =
    ap reverse (map-append (λ x. x.now) c.loop-change.yielded (c.in-Some.change ∷ [])) ∙ reverse-append (list_map (λ x. x.now) c.loop-change.yielded) (change ∷ [])
    in
    record {
      own = subst (λ l. IsTrue (c.loop-change.own && c.in_ok-own.field-0) ↔ AreOwn c.args.client c.args.counter l) (sym same)
          (own_more c.args.client c.args.counter c.loop-change.later change rest c.loop-change.own c.in_ok-own.field-0 c.loop-change.invariant.own c.loop-change.invariant.tells c.in_ok-own.ensures.own);
      tells = λ q. tells_more c.loop-change.later c.note.new.noted change rest c.loop-change.invariant.tells c.in_ok-own.ensures.noted q ∙ ap (list_any (creates_it q)) (sym same);
    }

pub returns : goal.returns
returns g c =
    let end = YieldsList-end (YieldsList-from_rev_slice c.args.changes.now (search rules)) c.loop-change.yielded _ c.loop-change.yielded_by _ _ c.in-None.is c.next.ensures.steps in
    let whole : reverse (list_map (λ x. x.now) c.loop-change.yielded) ≡ c.args.changes.now = ap reverse end.0 ∙ reverse-reverse c.args.changes.now in
    subst (λ l. IsTrue c.loop-change.own ↔ AreOwn c.args.client c.args.counter l) whole c.loop-change.invariant.own
