use Rattle.std.proofs.Common.{IfOk, IfErr, ◌≡◌, Some, codes, subst, sym}
use Rattle.serde_json.specs.View.{view, items_view}
use Rattle.canvas_codec.specs.Faults.{RefusesShape}
use Rattle.canvas_doc.specs.Seen.{seen}
use Rattle.canvas_forms.specs.Changes.{change_form}
use Rattle.canvas_forms.proofs.Members.{word_is}
use Rattle.canvas_forms.proofs.changes.read_change.Goals as goal

pub returns-then-eq-clause-ok : goal.returns-then-eq-clause-ok
returns-then-eq-clause-ok g c = subst (λ d. IfOk c.read_create.result (λ r. change_form.read d ≡ Some (seen r.0, r.1))) (word_is (view c.args.json.now) c.in-Some.word.now (items_view c.in-Some.rest.now) (codes "create") (sym c.in-Some.ensures) (sym c.if-eq.ensures)) c.read_create.ensures.ok

pub returns-then-eq-clause-fault : goal.returns-then-eq-clause-fault
returns-then-eq-clause-fault g c = subst (λ d. IfErr c.read_create.result (RefusesShape (change_form.read d))) (word_is (view c.args.json.now) c.in-Some.word.now (items_view c.in-Some.rest.now) (codes "create") (sym c.in-Some.ensures) (sym c.if-eq.ensures)) c.read_create.ensures.fault

pub returns-then-eq-2-clause-ok : goal.returns-then-eq-2-clause-ok
returns-then-eq-2-clause-ok g c = subst (λ d. IfOk c.read_set.result (λ r. change_form.read d ≡ Some (seen r.0, r.1))) (word_is (view c.args.json.now) c.in-Some.word.now (items_view c.in-Some.rest.now) (codes "set") (sym c.in-Some.ensures) (sym c.if-eq-2.ensures)) c.read_set.ensures.ok

pub returns-then-eq-2-clause-fault : goal.returns-then-eq-2-clause-fault
returns-then-eq-2-clause-fault g c = subst (λ d. IfErr c.read_set.result (RefusesShape (change_form.read d))) (word_is (view c.args.json.now) c.in-Some.word.now (items_view c.in-Some.rest.now) (codes "set") (sym c.in-Some.ensures) (sym c.if-eq-2.ensures)) c.read_set.ensures.fault

pub returns-then-eq-3-clause-ok : goal.returns-then-eq-3-clause-ok
returns-then-eq-3-clause-ok g c = subst (λ d. IfOk c.read_clear.result (λ r. change_form.read d ≡ Some (seen r.0, r.1))) (word_is (view c.args.json.now) c.in-Some.word.now (items_view c.in-Some.rest.now) (codes "clear") (sym c.in-Some.ensures) (sym c.if-eq-3.ensures)) c.read_clear.ensures.ok

pub returns-then-eq-3-clause-fault : goal.returns-then-eq-3-clause-fault
returns-then-eq-3-clause-fault g c = subst (λ d. IfErr c.read_clear.result (RefusesShape (change_form.read d))) (word_is (view c.args.json.now) c.in-Some.word.now (items_view c.in-Some.rest.now) (codes "clear") (sym c.in-Some.ensures) (sym c.if-eq-3.ensures)) c.read_clear.ensures.fault

pub returns-then-eq-4-clause-ok : goal.returns-then-eq-4-clause-ok
returns-then-eq-4-clause-ok g c = subst (λ d. IfOk c.read_move.result (λ r. change_form.read d ≡ Some (seen r.0, r.1))) (word_is (view c.args.json.now) c.in-Some.word.now (items_view c.in-Some.rest.now) (codes "move") (sym c.in-Some.ensures) (sym c.if-eq-4.ensures)) c.read_move.ensures.ok

pub returns-then-eq-4-clause-fault : goal.returns-then-eq-4-clause-fault
returns-then-eq-4-clause-fault g c = subst (λ d. IfErr c.read_move.result (RefusesShape (change_form.read d))) (word_is (view c.args.json.now) c.in-Some.word.now (items_view c.in-Some.rest.now) (codes "move") (sym c.in-Some.ensures) (sym c.if-eq-4.ensures)) c.read_move.ensures.fault

pub returns-then-eq-5-clause-ok : goal.returns-then-eq-5-clause-ok
returns-then-eq-5-clause-ok g c = subst (λ d. IfOk c.read_delete.result (λ r. change_form.read d ≡ Some (seen r.0, r.1))) (word_is (view c.args.json.now) c.in-Some.word.now (items_view c.in-Some.rest.now) (codes "delete") (sym c.in-Some.ensures) (sym c.if-eq-5.ensures)) c.read_delete.ensures.ok

pub returns-then-eq-5-clause-fault : goal.returns-then-eq-5-clause-fault
returns-then-eq-5-clause-fault g c = subst (λ d. IfErr c.read_delete.result (RefusesShape (change_form.read d))) (word_is (view c.args.json.now) c.in-Some.word.now (items_view c.in-Some.rest.now) (codes "delete") (sym c.in-Some.ensures) (sym c.if-eq-5.ensures)) c.read_delete.ensures.fault
