use Rattle.std.proofs.Common.{sym, ◌∙◌}
use Rattle.std.proofs.lemmas.Result.{IfOk-weaker, IfErr-weaker}
use Rattle.serde_json.specs.View.{view}
use Rattle.canvas_codec.proofs.Laws.{read_exact, refusal_means, only_memory}
use Rattle.canvas_codec.proofs.JsonOne.{json_one}
use Rattle.canvas_codec.proofs.json.from_json.Goals as goal

pub returns-clause-ok : goal.returns-clause-ok
returns-clause-ok g c = IfOk-weaker c.judge.result _ _ (λ v e. (read_exact (view c.args.json.now) v e).0) c.judge.ensures.ok

pub returns-clause-only : goal.returns-clause-only
returns-clause-only g c = IfOk-weaker c.judge.result _ _ (λ v e w same. json_one w v (same ∙ sym ((read_exact (view c.args.json.now) v e).0))) c.judge.ensures.ok

pub returns-clause-fault : goal.returns-clause-fault
returns-clause-fault g c = IfErr-weaker c.judge.result _ _ (refusal_means (view c.args.json.now)) c.judge.ensures.fault

pub returns-clause-range : goal.returns-clause-range
returns-clause-range g c = IfOk-weaker c.judge.result _ _ (λ v e. (read_exact (view c.args.json.now) v e).1) c.judge.ensures.ok

pub returns-clause-only_memory : goal.returns-clause-only_memory
returns-clause-only_memory g c w s = IfErr-weaker c.judge.result _ _ (λ f h. only_memory (view c.args.json.now) w f s (refusal_means (view c.args.json.now) f h)) c.judge.ensures.fault
