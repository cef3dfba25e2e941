use Rattle.std.proofs.Common.{ap}
use Rattle.canvas_model.specs.Depth.{IsTooDeepUnder}
use Rattle.canvas_judge.proofs.Against.{limited, unlimited}
use Rattle.canvas_judge.proofs.state.State.creates_too_deep.Goals as goal

pub returns-in-One : goal.returns-in-One
returns-in-One g c = unlimited c.args.rule c.in-One.is (IsTooDeepUnder c.args.self.now.doc c.args.parent)

pub returns-in-Two : goal.returns-in-Two
returns-in-Two g c = limited c.args.rule c.in-Two.is (λ d. IsTooDeepUnder d c.args.parent) c.self.inside.doc c.args.self.now.doc c.is_too_deep_under.result (ap (λ s. s.doc) c.self.view_is) c.is_too_deep_under.ensures
