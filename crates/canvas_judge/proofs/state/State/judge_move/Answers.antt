use Rattle.std.proofs.Common.{ℕ, None, Some, ap, subst, sym}
use Rattle.canvas_model.specs.declared.Reason.TheVariants.{Crowded}
use Rattle.canvas_model.specs.Document.{Place}
use Rattle.canvas_model.specs.Change.{Move}
use Rattle.canvas_model.specs.Verdict.{Moved, Judges, Holds, NoneBefore, rank}
use Rattle.canvas_judge.specs.Choice.{PositionFor}
use Rattle.canvas_judge.specs.Seen.{seen_outcome}
use Rattle.canvas_judge.proofs.Against.{move_refused, move_granted, move_crowded, none_of, some_of}
use Rattle.canvas_judge.proofs.state.State.judge_move.Goals as goal

pub returns-in-Some-clause-verdict : goal.returns-in-Some-clause-verdict
returns-in-Some-clause-verdict g c = move_refused c.args.rule c.args.self.now c.args.id seen_outcome c.args.place.now c.in-Some.reason (some_of (λ reason. (author : ℕ) → Holds c.args.rule c.args.self.now author (Move c.args.id c.args.place.now) reason × NoneBefore c.args.rule c.args.self.now author (Move c.args.id c.args.place.now) (rank reason)) c.in_ok-reason.field-0 c.in-Some.reason c.in-Some.is c.in_ok-reason.ensures.some) c.refuse_move.result c.refuse_move.ensures

pub returns-in-Some-2-clause-verdict : goal.returns-in-Some-2-clause-verdict
returns-in-Some-2-clause-verdict g c =
    let given : PositionFor c.args.self.now.doc c.args.id c.args.place.now (Some c.in-Some-2.pos) = rw (← c.self.view_is) (subst (PositionFor c.self.inside.doc c.args.id c.args.place.now) c.in-Some-2.is c.in_ok-pos.ensures) in
    subst (λ parent. (author : ℕ) → Judges c.args.rule c.args.self.now author (Move c.args.id c.args.place.now) (Moved (record { parent = parent; pos = c.in-Some-2.pos })))
    (sym (ap (λ (p : Place). p.parent) c.place.view_is))
    (move_granted c.args.rule c.args.self.now c.args.id c.args.place.now c.in-Some-2.pos (none_of ((author : ℕ) → NoneBefore c.args.rule c.args.self.now author (Move c.args.id c.args.place.now) 8) c.in_ok-reason.field-0 c.in_default.is c.in_ok-reason.ensures.none) given)

pub returns-in-None-clause-verdict : goal.returns-in-None-clause-verdict
returns-in-None-clause-verdict g c =
    let full : PositionFor c.args.self.now.doc c.args.id c.args.place.now None = rw (← c.self.view_is) (subst (PositionFor c.self.inside.doc c.args.id c.args.place.now) c.in-None.is c.in_ok-pos.ensures) in
    move_refused c.args.rule c.args.self.now c.args.id seen_outcome c.args.place.now Crowded (move_crowded c.args.rule c.args.self.now c.args.id c.args.place.now (none_of ((author : ℕ) → NoneBefore c.args.rule c.args.self.now author (Move c.args.id c.args.place.now) 8) c.in_ok-reason.field-0 c.in_default.is c.in_ok-reason.ensures.none) full) c.refuse_move-in-None.result c.refuse_move-in-None.ensures
