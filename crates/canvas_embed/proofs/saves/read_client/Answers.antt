use Rattle.std.proofs.Common.{IfOk, IfErr, ◌≡◌, Some, codes, subst, sym}
use Rattle.serde_json.specs.View.{view, items_view}
use Rattle.canvas_codec.specs.Faults.{RefusesShape}
use Rattle.canvas_forms.proofs.Members.{word_is}
use Rattle.canvas_embed.specs.Saves.{saved_in, seen_saved_draft}
use Rattle.canvas_embed.proofs.saves.read_client.Goals as goal

pub returns-then-eq-clause-ok : goal.returns-then-eq-clause-ok
returns-then-eq-clause-ok c = subst (λ d. IfOk c.read_saved.result (λ r. saved_in d ≡ Some (seen_saved_draft r.0, r.1))) (word_is (view c.args.json.now) c.in-Some.word.now (items_view c.in-Some.rest.now) (codes "client") (sym c.in-Some.ensures) (sym c.if-eq.ensures)) c.read_saved.ensures.ok

pub returns-then-eq-clause-fault : goal.returns-then-eq-clause-fault
returns-then-eq-clause-fault c = subst (λ d. IfErr c.read_saved.result (RefusesShape (saved_in d))) (word_is (view c.args.json.now) c.in-Some.word.now (items_view c.in-Some.rest.now) (codes "client") (sym c.in-Some.ensures) (sym c.if-eq.ensures)) c.read_saved.ensures.fault
