use Rattle.std.proofs.Common.{sym, subst, ◌∙◌}
use Rattle.canvas_model.specs.Local.{GoesTooDeep}
use Rattle.canvas_client.specs.Asked.{refusal}
use Rattle.canvas_client.specs.Placed.{place_refusal}
use Rattle.canvas_client.proofs.AtPlaces.{so_closed, so_deep, so_shown}
use Rattle.canvas_client.proofs.Refusing.{before_room, not_so}
use Rattle.canvas_client.proofs.client.Client.look_at.Goals as goal

pub returns-in_default-clause-err : goal.returns-in_default-clause-err
returns-in_default-clause-err g c = so_closed c.args.self.now c.args.request.now c.args.place.now (sym c.id.ensures ∙ c.in_default.is)

pub refusal_shown-requires : goal.refusal_shown-requires
refusal_shown-requires g c none = let some = c.in-Some.is in let id = c.id.ensures in absurd (cc)

pub returns-in-Some-refusal_shown-clause-err : goal.returns-in-Some-refusal_shown-clause-err
returns-in-Some-refusal_shown-clause-err g c =
    so_shown c.args.self.now c.args.request.now c.args.place.now (place_refusal c.of_edit.result) (refusal c.in-Some-refusal_shown.error) c.of_edit.ensures c.in-Some-refusal_shown.ensures.some c.in-Some-refusal_shown.ensures.early

pub returns-then-branch-clause-err : goal.returns-then-branch-clause-err
returns-then-branch-clause-err g c =
    so_deep c.args.self.now c.args.request.now c.args.place.now c.in_default-refusal_shown.ensures.none (subst (λ d. GoesTooDeep d c.args.request.now) c.view.ensures.view (c.in_ok-goes_too_deep.ensures.0 c.if-branch.true))

pub returns-clause-none : goal.returns-clause-none
returns-clause-none g c = before_room c.args.self.now c.args.request.now c.view.result.now c.view.ensures.view c.in_default-refusal_shown.ensures.none (not_so c.in_ok-goes_too_deep.ensures c.if-branch.false)
