use Rattle.std.proofs.Common.{inr, Some, subst, arith}
use Rattle.canvas_model.specs.Local.{NotShown, Lands}
use Rattle.canvas_client.specs.Asked.{seen_target}
use Rattle.canvas_client.proofs.Drafted.{move_full, move_makes}
use Rattle.canvas_client.proofs.client.Client.draft_move.Goals as goal

pub position_at-requires : goal.position_at-requires
position_at-requires g c = rw c.view.ensures.view (λ h. c.requires NotShown (omega arith) (inr h))

pub returns-then-is_full-clause-err : goal.returns-then-is_full-clause-err
returns-then-is_full-clause-err g c =
    let lands = subst (λ d. Lands d c.args.id (seen_target c.args.target) (Some c.in_ok-pos.pos)) c.view.ensures.view c.in_ok-pos.ensures.ok in
    move_full c.args.self.now c.args.id (seen_target c.args.target) c.in_ok-pos.pos c.requires lands (c.is_full.ensures.0 c.if-is_full.true)

pub returns-clause-ok : goal.returns-clause-ok
returns-clause-ok g c =
    let lands = subst (λ d. Lands d c.args.id (seen_target c.args.target) (Some c.in_ok-pos.pos)) c.view.ensures.view c.in_ok-pos.ensures.ok in
    move_makes c.args.self.now c.args.id (seen_target c.args.target) c.in_ok-pos.pos c.requires lands c.move_to.result
    (λ e. let t = c.is_full.ensures.1 e in let f = c.if-is_full.false in absurd (cc)) c.move_to.ensures
