use Rattle.std.proofs.Common.{IfOk, IfErr, ◌≡◌, Some, codes, subst, sym}
use Rattle.serde_json.specs.View.{view, items_view}
use Rattle.canvas_codec.specs.Faults.{RefusesShape}
use Rattle.canvas_forms.specs.Version.{version_two}
use Rattle.canvas_forms.proofs.Members.{word_is}
use Rattle.canvas_wire.specs.Drafts.{seen_parts}
use Rattle.canvas_wire.specs.Messages.{message_in}
use Rattle.canvas_wire.proofs.messages.read_message.Goals as goal

pub returns-then-eq-clause-ok : goal.returns-then-eq-clause-ok
returns-then-eq-clause-ok g c = subst (λ d. IfOk c.read_join.result (λ r. message_in version_two d ≡ Some (seen_parts r.0, r.1))) (word_is (view c.args.json.now) c.in-Some.word.now (items_view c.in-Some.rest.now) (codes "join") (sym c.in-Some.ensures) (sym c.if-eq.ensures)) c.read_join.ensures.ok

pub returns-then-eq-clause-fault : goal.returns-then-eq-clause-fault
returns-then-eq-clause-fault g c = subst (λ d. IfErr c.read_join.result (RefusesShape (message_in version_two d))) (word_is (view c.args.json.now) c.in-Some.word.now (items_view c.in-Some.rest.now) (codes "join") (sym c.in-Some.ensures) (sym c.if-eq.ensures)) c.read_join.ensures.fault

pub returns-then-eq-2-clause-ok : goal.returns-then-eq-2-clause-ok
returns-then-eq-2-clause-ok g c = subst (λ d. IfOk c.read_welcome.result (λ r. message_in version_two d ≡ Some (seen_parts r.0, r.1))) (word_is (view c.args.json.now) c.in-Some.word.now (items_view c.in-Some.rest.now) (codes "welcome") (sym c.in-Some.ensures) (sym c.if-eq-2.ensures)) c.read_welcome.ensures.ok

pub returns-then-eq-2-clause-fault : goal.returns-then-eq-2-clause-fault
returns-then-eq-2-clause-fault g c = subst (λ d. IfErr c.read_welcome.result (RefusesShape (message_in version_two d))) (word_is (view c.args.json.now) c.in-Some.word.now (items_view c.in-Some.rest.now) (codes "welcome") (sym c.in-Some.ensures) (sym c.if-eq-2.ensures)) c.read_welcome.ensures.fault

pub returns-then-eq-3-clause-ok : goal.returns-then-eq-3-clause-ok
returns-then-eq-3-clause-ok g c = subst (λ d. IfOk c.read_edit.result (λ r. message_in version_two d ≡ Some (seen_parts r.0, r.1))) (word_is (view c.args.json.now) c.in-Some.word.now (items_view c.in-Some.rest.now) (codes "edit") (sym c.in-Some.ensures) (sym c.if-eq-3.ensures)) c.read_edit.ensures.ok

pub returns-then-eq-3-clause-fault : goal.returns-then-eq-3-clause-fault
returns-then-eq-3-clause-fault g c = subst (λ d. IfErr c.read_edit.result (RefusesShape (message_in version_two d))) (word_is (view c.args.json.now) c.in-Some.word.now (items_view c.in-Some.rest.now) (codes "edit") (sym c.in-Some.ensures) (sym c.if-eq-3.ensures)) c.read_edit.ensures.fault

pub returns-then-eq-4-clause-ok : goal.returns-then-eq-4-clause-ok
returns-then-eq-4-clause-ok g c = subst (λ d. IfOk c.read_ask.result (λ r. message_in version_two d ≡ Some (seen_parts r.0, r.1))) (word_is (view c.args.json.now) c.in-Some.word.now (items_view c.in-Some.rest.now) (codes "ask") (sym c.in-Some.ensures) (sym c.if-eq-4.ensures)) c.read_ask.ensures.ok

pub returns-then-eq-4-clause-fault : goal.returns-then-eq-4-clause-fault
returns-then-eq-4-clause-fault g c = subst (λ d. IfErr c.read_ask.result (RefusesShape (message_in version_two d))) (word_is (view c.args.json.now) c.in-Some.word.now (items_view c.in-Some.rest.now) (codes "ask") (sym c.in-Some.ensures) (sym c.if-eq-4.ensures)) c.read_ask.ensures.fault

pub returns-then-eq-5-clause-ok : goal.returns-then-eq-5-clause-ok
returns-then-eq-5-clause-ok g c = subst (λ d. IfOk c.read_told.result (λ r. message_in version_two d ≡ Some (seen_parts r.0, r.1))) (word_is (view c.args.json.now) c.in-Some.word.now (items_view c.in-Some.rest.now) (codes "entry") (sym c.in-Some.ensures) (sym c.if-eq-5.ensures)) c.read_told.ensures.ok

pub returns-then-eq-5-clause-fault : goal.returns-then-eq-5-clause-fault
returns-then-eq-5-clause-fault g c = subst (λ d. IfErr c.read_told.result (RefusesShape (message_in version_two d))) (word_is (view c.args.json.now) c.in-Some.word.now (items_view c.in-Some.rest.now) (codes "entry") (sym c.in-Some.ensures) (sym c.if-eq-5.ensures)) c.read_told.ensures.fault

pub returns-then-eq-6-clause-ok : goal.returns-then-eq-6-clause-ok
returns-then-eq-6-clause-ok g c = subst (λ d. IfOk c.read_copy.result (λ r. message_in version_two d ≡ Some (seen_parts r.0, r.1))) (word_is (view c.args.json.now) c.in-Some.word.now (items_view c.in-Some.rest.now) (codes "copy") (sym c.in-Some.ensures) (sym c.if-eq-6.ensures)) c.read_copy.ensures.ok

pub returns-then-eq-6-clause-fault : goal.returns-then-eq-6-clause-fault
returns-then-eq-6-clause-fault g c = subst (λ d. IfErr c.read_copy.result (RefusesShape (message_in version_two d))) (word_is (view c.args.json.now) c.in-Some.word.now (items_view c.in-Some.rest.now) (codes "copy") (sym c.in-Some.ensures) (sym c.if-eq-6.ensures)) c.read_copy.ensures.fault

pub returns-then-eq-7-clause-ok : goal.returns-then-eq-7-clause-ok
returns-then-eq-7-clause-ok g c = subst (λ d. IfOk c.read_idle.result (λ r. message_in version_two d ≡ Some (seen_parts r.0, r.1))) (word_is (view c.args.json.now) c.in-Some.word.now (items_view c.in-Some.rest.now) (codes "idle") (sym c.in-Some.ensures) (sym c.if-eq-7.ensures)) c.read_idle.ensures.ok

pub returns-then-eq-7-clause-fault : goal.returns-then-eq-7-clause-fault
returns-then-eq-7-clause-fault g c = subst (λ d. IfErr c.read_idle.result (RefusesShape (message_in version_two d))) (word_is (view c.args.json.now) c.in-Some.word.now (items_view c.in-Some.rest.now) (codes "idle") (sym c.in-Some.ensures) (sym c.if-eq-7.ensures)) c.read_idle.ensures.fault

pub returns-then-eq-8-clause-ok : goal.returns-then-eq-8-clause-ok
returns-then-eq-8-clause-ok g c = subst (λ d. IfOk c.read_no.result (λ r. message_in version_two d ≡ Some (seen_parts r.0, r.1))) (word_is (view c.args.json.now) c.in-Some.word.now (items_view c.in-Some.rest.now) (codes "no") (sym c.in-Some.ensures) (sym c.if-eq-8.ensures)) c.read_no.ensures.ok

pub returns-then-eq-8-clause-fault : goal.returns-then-eq-8-clause-fault
returns-then-eq-8-clause-fault g c = subst (λ d. IfErr c.read_no.result (RefusesShape (message_in version_two d))) (word_is (view c.args.json.now) c.in-Some.word.now (items_view c.in-Some.rest.now) (codes "no") (sym c.in-Some.ensures) (sym c.if-eq-8.ensures)) c.read_no.ensures.fault
