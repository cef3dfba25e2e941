use Rattle.std.proofs.Common.{◌≡◌, sym, ap, ◌∙◌, subst, arith}
use Rattle.std.specs.List.{Contains}
use Rattle.canvas_model.specs.Ids.{root}
use Rattle.canvas_model.specs.Document.{without}
use Rattle.std.proofs.lemmas.Result.{on_ok_weaker}
use Rattle.canvas_model.specs.Verdict.{Refused}
use Rattle.canvas_doc.specs.Seen.{seen}
use Rattle.canvas_judge.specs.Seen.{seen_outcome}
use Rattle.canvas_model.specs.Receive.{staying}
use Rattle.canvas_client.proofs.Followed.{set_shown, moved_shown, refused_shown, removed_shown, created_other}
use Rattle.canvas_client.proofs.fields.refresh.Goals as goal

pub returns-in-Set-WasSet-clause-ok : goal.returns-in-Set-WasSet-clause-ok
returns-in-Set-WasSet-clause-ok g c = on_ok_weaker c.set.result (λ is spares.
    set_shown c.args.own (staying c.args.own c.args.waiting.now) c.args.change.now (seen_outcome c.args.outcome.now) c.args.view.now.doc c.set.new.view.doc c.in-Set-WasSet.id c.in-Set-WasSet.name c.in-Set-WasSet.value
    (sym c.variant.ensures.variant ∙ ap seen c.in-Set-WasSet.is-0) (ap seen_outcome c.in-Set-WasSet.is-1) is) c.set.ensures.ok

pub returns-in-Move-Moved-clause-ok : goal.returns-in-Move-Moved-clause-ok
returns-in-Move-Moved-clause-ok g c = on_ok_weaker c.put.result (λ is spares.
    moved_shown c.args.own (staying c.args.own c.args.waiting.now) c.args.change.now (seen_outcome c.args.outcome.now) c.args.view.now.doc c.put.new.view.doc c.in-Move-Moved.id c.in-Move-Moved.place-0 c.in-Move-Moved.place
    (sym c.variant.ensures.variant ∙ ap seen c.in-Move-Moved.is-0) (ap seen_outcome c.in-Move-Moved.is-1) is spares) c.put.ensures.ok

pub returns-in-Some-clause-ok : goal.returns-in-Some-clause-ok
returns-in-Some-clause-ok g c = on_ok_weaker c.put-in-Some.result (λ is spares.
    refused_shown c.args.own (staying c.args.own c.args.waiting.now) c.args.change.now (seen_outcome c.args.outcome.now) c.args.view.now.doc c.put-in-Some.new.view.doc c.in-Move-Refused.id c.in-Move-Refused.place-0 c.in-Some.place c.in-Move-Refused.reason-1
    (sym c.variant.ensures.variant ∙ ap seen c.in-Move-Refused.is-0) (ap seen_outcome c.in-Move-Refused.is-1 ∙ ap (Refused c.in-Move-Refused.reason-1) c.in-Some.is) is spares) c.put-in-Some.ensures.ok

pub returns-in-Delete-Removed-clause-ok : goal.returns-in-Delete-Removed-clause-ok
returns-in-Delete-Removed-clause-ok g c spares =
    removed_shown c.args.own (staying c.args.own c.args.waiting.now) c.args.change.now (seen_outcome c.args.outcome.now) c.args.view.now.doc c.remove_each.new.view.doc c.in-Delete-Removed.id-0 c.in-Delete-Removed.ids.items
    (sym c.variant.ensures.variant ∙ ap seen c.in-Delete-Removed.is-0) (ap seen_outcome c.in-Delete-Removed.is-1)
    (λ absent. subst (λ l. (Contains l root → ⊥) → c.remove_each.new.view.doc ≡ without c.args.view.now.doc l) c.deref.ensures.value c.remove_each.ensures.doc absent) spares

pub returns-in_default : goal.returns-in_default
returns-in_default g c = record {
  ok = λ spares. created_other c.args.own (staying c.args.own c.args.waiting.now) c.args.change.now c.args.outcome.now c.args.view.now.doc c.in_default.field-0-0 c.in_default.field-1-0 c.in_default.field-2-0
      (sym c.variant.ensures.variant ∙ ap seen c.in_default.is-0) c.in_default.not-Created-1 c.in_default.not-Refused-1;
  count = (omega arith, omega arith);
  err = tt;
}
