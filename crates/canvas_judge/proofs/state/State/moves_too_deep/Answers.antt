use Rattle.std.proofs.Common.{ap, subst}
use Rattle.std.proofs.lemmas.Result.{IfOk-weaker}
use Rattle.canvas_model.specs.Document.{Doc}
use Rattle.canvas_model.specs.Depth.{MovesTooDeep}
use Rattle.std.specs.Prelude.{IsTrue}
use Rattle.canvas_judge.proofs.Against.{limited, unlimited}
use Rattle.canvas_judge.proofs.Bounding.{surely_not}
use Rattle.canvas_judge.proofs.state.State.moves_too_deep.Goals as goal

pub returns-in-One : goal.returns-in-One
returns-in-One g c = unlimited c.args.rule c.in-One.is (MovesTooDeep c.args.self.now.doc c.args.id c.args.parent)

pub returns-then-is_surely_within : goal.returns-then-is_surely_within
returns-then-is_surely_within g c =
    surely_not c.args.rule c.is_surely_within.result (MovesTooDeep c.args.self.now.doc c.args.id c.args.parent)
    (subst (λ (d : Doc). IsTrue c.is_surely_within.result → MovesTooDeep d c.args.id c.args.parent → ⊥) (ap (λ s. s.doc) c.self.view_is) c.is_surely_within.ensures) c.if-is_surely_within.true

pub returns-else-is_surely_within : goal.returns-else-is_surely_within
returns-else-is_surely_within g c =
    IfOk-weaker c.moves_too_deep.result _ _
    (λ deep iff. limited c.args.rule c.in-Two.is (λ d. MovesTooDeep d c.args.id c.args.parent) c.self.inside.doc c.args.self.now.doc deep (ap (λ s. s.doc) c.self.view_is) iff)
    c.moves_too_deep.ensures
