use Rattle.std.proofs.Common.{subst, refl, None}
use Rattle.canvas_judge.specs.Choice.{PositionFor}
use Rattle.canvas_judge.proofs.state.State.judge_create.Goals as goal

pub returns-in-None-clause-verdict : goal.returns-in-None-clause-verdict
returns-in-None-clause-verdict g c =
    let none = c.in_default.ensures.none in
    let full : PositionFor c.args.self.now.doc c.args.id c.args.place.now None = rw (← c.self.view_is) (subst (PositionFor c.self.inside.doc c.args.id c.args.place.now) c.in-None.is c.in_ok-pos.ensures) in
    (full, none, refl)
