use Rattle.std.proofs.Common.{inr, Some, ap, subst, ◌∙◌, arith}
use Rattle.canvas_model.specs.Ids.{root}
use Rattle.canvas_model.specs.Document.{Place}
use Rattle.canvas_model.specs.Change as change
use Rattle.canvas_model.specs.Local.{NotShown, Lands}
use Rattle.canvas_client.specs.Asked.{seen_target}
use Rattle.canvas_client.proofs.Drafted.{create_spent, create_full, create_makes}
use Rattle.canvas_client.proofs.client.Client.draft_create.Goals as goal

pub position_at-requires : goal.position_at-requires
position_at-requires g c = rw c.view.ensures.view (λ h. c.requires.none NotShown (omega arith) (inr h))

pub returns-in_default-clause-err : goal.returns-in_default-clause-err
returns-in_default-clause-err g c =
    let lands = subst (λ d. Lands d root (seen_target c.args.target) (Some c.in_ok-pos.pos)) c.view.ensures.view c.in_ok-pos.ensures.ok in
    create_spent c.args.self.now c.args.kind (seen_target c.args.target) c.in_ok-pos.pos c.requires.none lands c.in_default.ensures.none

pub returns-then-is_full-clause-err : goal.returns-then-is_full-clause-err
returns-then-is_full-clause-err g c =
    let lands = subst (λ d. Lands d root (seen_target c.args.target) (Some c.in_ok-pos.pos)) c.view.ensures.view c.in_ok-pos.ensures.ok in
    create_full c.args.self.now c.args.kind (seen_target c.args.target) c.in_ok-pos.pos c.requires.none lands (c.in-Some.ensures.some.0) (c.is_full.ensures.0 c.if-is_full.true)

pub returns-clause-ok : goal.returns-clause-ok
returns-clause-ok g c =
    let lands = subst (λ d. Lands d root (seen_target c.args.target) (Some c.in_ok-pos.pos)) c.view.ensures.view c.in_ok-pos.ensures.ok in
    let place : Place = record { parent = c.args.target.parent; pos = c.in_ok-pos.pos } in
    create_makes c.args.self.now c.args.kind (seen_target c.args.target) c.in_ok-pos.pos c.requires.none lands (c.in-Some.ensures.some.0) c.args.client c.create.result c.requires.id
    (λ e. let t = c.is_full.ensures.1 e in let f = c.if-is_full.false in absurd (cc))
    (c.create.ensures ∙ ap (λ n. change.Create (record { client = c.args.client; counter = n }) c.args.kind place) c.in-Some.ensures.some.1)
