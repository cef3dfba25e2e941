use Rattle.std.proofs.Common.{IfOk, IfErr, ◌≡◌, Some, codes, subst, sym}
use Rattle.serde_json.specs.View.{view, items_view}
use Rattle.canvas_codec.specs.Faults.{RefusesShape}
use Rattle.canvas_judge.specs.Seen.{seen_outcome}
use Rattle.canvas_forms.specs.Version.{version_two}
use Rattle.canvas_forms.specs.Outcomes.{outcome_form}
use Rattle.canvas_forms.proofs.Members.{word_is}
use Rattle.canvas_forms.proofs.outcomes.read_outcome.Goals as goal

pub returns-then-eq-clause-ok : goal.returns-then-eq-clause-ok
returns-then-eq-clause-ok g c = subst (λ d. IfOk c.read_joined.result (λ r. (outcome_form version_two).read d ≡ Some (seen_outcome r.0, r.1))) (word_is (view c.args.json.now) c.in-Some.word.now (items_view c.in-Some.rest.now) (codes "joined") (sym c.in-Some.ensures) (sym c.if-eq.ensures)) c.read_joined.ensures.ok

pub returns-then-eq-clause-fault : goal.returns-then-eq-clause-fault
returns-then-eq-clause-fault g c = subst (λ d. IfErr c.read_joined.result (RefusesShape ((outcome_form version_two).read d))) (word_is (view c.args.json.now) c.in-Some.word.now (items_view c.in-Some.rest.now) (codes "joined") (sym c.in-Some.ensures) (sym c.if-eq.ensures)) c.read_joined.ensures.fault

pub returns-then-eq-2-clause-ok : goal.returns-then-eq-2-clause-ok
returns-then-eq-2-clause-ok g c = subst (λ d. IfOk c.read_created.result (λ r. (outcome_form version_two).read d ≡ Some (seen_outcome r.0, r.1))) (word_is (view c.args.json.now) c.in-Some.word.now (items_view c.in-Some.rest.now) (codes "created") (sym c.in-Some.ensures) (sym c.if-eq-2.ensures)) c.read_created.ensures.ok

pub returns-then-eq-2-clause-fault : goal.returns-then-eq-2-clause-fault
returns-then-eq-2-clause-fault g c = subst (λ d. IfErr c.read_created.result (RefusesShape ((outcome_form version_two).read d))) (word_is (view c.args.json.now) c.in-Some.word.now (items_view c.in-Some.rest.now) (codes "created") (sym c.in-Some.ensures) (sym c.if-eq-2.ensures)) c.read_created.ensures.fault

pub returns-then-eq-3-clause-ok : goal.returns-then-eq-3-clause-ok
returns-then-eq-3-clause-ok g c = subst (λ d. IfOk c.read_was_set.result (λ r. (outcome_form version_two).read d ≡ Some (seen_outcome r.0, r.1))) (word_is (view c.args.json.now) c.in-Some.word.now (items_view c.in-Some.rest.now) (codes "wasset") (sym c.in-Some.ensures) (sym c.if-eq-3.ensures)) c.read_was_set.ensures.ok

pub returns-then-eq-3-clause-fault : goal.returns-then-eq-3-clause-fault
returns-then-eq-3-clause-fault g c = subst (λ d. IfErr c.read_was_set.result (RefusesShape ((outcome_form version_two).read d))) (word_is (view c.args.json.now) c.in-Some.word.now (items_view c.in-Some.rest.now) (codes "wasset") (sym c.in-Some.ensures) (sym c.if-eq-3.ensures)) c.read_was_set.ensures.fault

pub returns-then-eq-4-clause-ok : goal.returns-then-eq-4-clause-ok
returns-then-eq-4-clause-ok g c = subst (λ d. IfOk c.read_moved.result (λ r. (outcome_form version_two).read d ≡ Some (seen_outcome r.0, r.1))) (word_is (view c.args.json.now) c.in-Some.word.now (items_view c.in-Some.rest.now) (codes "moved") (sym c.in-Some.ensures) (sym c.if-eq-4.ensures)) c.read_moved.ensures.ok

pub returns-then-eq-4-clause-fault : goal.returns-then-eq-4-clause-fault
returns-then-eq-4-clause-fault g c = subst (λ d. IfErr c.read_moved.result (RefusesShape ((outcome_form version_two).read d))) (word_is (view c.args.json.now) c.in-Some.word.now (items_view c.in-Some.rest.now) (codes "moved") (sym c.in-Some.ensures) (sym c.if-eq-4.ensures)) c.read_moved.ensures.fault

pub returns-then-eq-5-clause-ok : goal.returns-then-eq-5-clause-ok
returns-then-eq-5-clause-ok g c = subst (λ d. IfOk c.read_removed.result (λ r. (outcome_form version_two).read d ≡ Some (seen_outcome r.0, r.1))) (word_is (view c.args.json.now) c.in-Some.word.now (items_view c.in-Some.rest.now) (codes "removed") (sym c.in-Some.ensures) (sym c.if-eq-5.ensures)) c.read_removed.ensures.ok

pub returns-then-eq-5-clause-fault : goal.returns-then-eq-5-clause-fault
returns-then-eq-5-clause-fault g c = subst (λ d. IfErr c.read_removed.result (RefusesShape ((outcome_form version_two).read d))) (word_is (view c.args.json.now) c.in-Some.word.now (items_view c.in-Some.rest.now) (codes "removed") (sym c.in-Some.ensures) (sym c.if-eq-5.ensures)) c.read_removed.ensures.fault

pub returns-then-eq-6-clause-ok : goal.returns-then-eq-6-clause-ok
returns-then-eq-6-clause-ok g c = subst (λ d. IfOk c.read_refused.result (λ r. (outcome_form version_two).read d ≡ Some (seen_outcome r.0, r.1))) (word_is (view c.args.json.now) c.in-Some.word.now (items_view c.in-Some.rest.now) (codes "refused") (sym c.in-Some.ensures) (sym c.if-eq-6.ensures)) c.read_refused.ensures.ok

pub returns-then-eq-6-clause-fault : goal.returns-then-eq-6-clause-fault
returns-then-eq-6-clause-fault g c = subst (λ d. IfErr c.read_refused.result (RefusesShape ((outcome_form version_two).read d))) (word_is (view c.args.json.now) c.in-Some.word.now (items_view c.in-Some.rest.now) (codes "refused") (sym c.in-Some.ensures) (sym c.if-eq-6.ensures)) c.read_refused.ensures.fault
