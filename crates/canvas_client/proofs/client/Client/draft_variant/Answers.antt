use Rattle.std.proofs.Common.{IfErr, IfOk, sym, ap, subst, ◌∙◌}
use Rattle.canvas_model.specs.Local.{Makes}
use Rattle.canvas_client.specs.Asked.{HoldsShallow, IsRefusal, NoneBefore, refusal, seen_edit_request}
use Rattle.canvas_client.proofs.client.Client.draft_variant.Goals as goal

pub draft_create-requires-clause-none : goal.draft_create-requires-clause-none
draft_create-requires-clause-none g c = subst (λ r. NoneBefore c.args.self.now r 7) (sym c.variant.ensures.variant ∙ ap seen_edit_request c.in-Create.is) c.requires.none

pub returns-in-Create-clause-ok : goal.returns-in-Create-clause-ok
returns-in-Create-clause-ok g c = subst (λ r. IfOk c.draft_create.result (Makes c.args.self.now r)) (sym (ap seen_edit_request c.in-Create.is) ∙ c.variant.ensures.variant) c.draft_create.ensures.ok

pub returns-in-Create-clause-err : goal.returns-in-Create-clause-err
returns-in-Create-clause-err g c = subst (λ r. IfErr c.draft_create.result (λ error. IsRefusal c.args.self.now r (refusal error))) (sym (ap seen_edit_request c.in-Create.is) ∙ c.variant.ensures.variant) c.draft_create.ensures.err

pub draft_set-requires-clause-none : goal.draft_set-requires-clause-none
draft_set-requires-clause-none g c = subst (λ r. NoneBefore c.args.self.now r 7) (sym c.variant.ensures.variant ∙ ap seen_edit_request c.in-Set.is) c.requires.none

pub draft_set-requires-clause-shallow : goal.draft_set-requires-clause-shallow
draft_set-requires-clause-shallow g c = subst HoldsShallow (sym c.variant.ensures.variant ∙ ap seen_edit_request c.in-Set.is) c.variant.ensures.shallow

pub returns-in-Set-clause-ok : goal.returns-in-Set-clause-ok
returns-in-Set-clause-ok g c = subst (λ r. IfOk c.draft_set.result (Makes c.args.self.now r)) (sym (ap seen_edit_request c.in-Set.is) ∙ c.variant.ensures.variant) c.draft_set.ensures.ok

pub returns-in-Set-clause-err : goal.returns-in-Set-clause-err
returns-in-Set-clause-err g c = subst (λ r. IfErr c.draft_set.result (λ error. IsRefusal c.args.self.now r (refusal error))) (sym (ap seen_edit_request c.in-Set.is) ∙ c.variant.ensures.variant) c.draft_set.ensures.err

pub draft_clear-requires : goal.draft_clear-requires
draft_clear-requires g c = subst (λ r. NoneBefore c.args.self.now r 7) (sym c.variant.ensures.variant ∙ ap seen_edit_request c.in-Clear.is) c.requires.none

pub returns-in-Clear-clause-ok : goal.returns-in-Clear-clause-ok
returns-in-Clear-clause-ok g c = subst (λ r. IfOk c.draft_clear.result (Makes c.args.self.now r)) (sym (ap seen_edit_request c.in-Clear.is) ∙ c.variant.ensures.variant) c.draft_clear.ensures.ok

pub returns-in-Clear-clause-err : goal.returns-in-Clear-clause-err
returns-in-Clear-clause-err g c = subst (λ r. IfErr c.draft_clear.result (λ error. IsRefusal c.args.self.now r (refusal error))) (sym (ap seen_edit_request c.in-Clear.is) ∙ c.variant.ensures.variant) c.draft_clear.ensures.err

pub draft_move-requires : goal.draft_move-requires
draft_move-requires g c = subst (λ r. NoneBefore c.args.self.now r 7) (sym c.variant.ensures.variant ∙ ap seen_edit_request c.in-Move.is) c.requires.none

pub returns-in-Move-clause-ok : goal.returns-in-Move-clause-ok
returns-in-Move-clause-ok g c = subst (λ r. IfOk c.draft_move.result (Makes c.args.self.now r)) (sym (ap seen_edit_request c.in-Move.is) ∙ c.variant.ensures.variant) c.draft_move.ensures.ok

pub returns-in-Move-clause-err : goal.returns-in-Move-clause-err
returns-in-Move-clause-err g c = subst (λ r. IfErr c.draft_move.result (λ error. IsRefusal c.args.self.now r (refusal error))) (sym (ap seen_edit_request c.in-Move.is) ∙ c.variant.ensures.variant) c.draft_move.ensures.err

pub draft_delete-requires : goal.draft_delete-requires
draft_delete-requires g c = subst (λ r. NoneBefore c.args.self.now r 7) (sym c.variant.ensures.variant ∙ ap seen_edit_request c.in-Delete.is) c.requires.none

pub returns-in-Delete-clause-ok : goal.returns-in-Delete-clause-ok
returns-in-Delete-clause-ok g c = subst (λ r. IfOk c.draft_delete.result (Makes c.args.self.now r)) (sym (ap seen_edit_request c.in-Delete.is) ∙ c.variant.ensures.variant) c.draft_delete.ensures.ok

pub returns-in-Delete-clause-err : goal.returns-in-Delete-clause-err
returns-in-Delete-clause-err g c = subst (λ r. IfErr c.draft_delete.result (λ error. IsRefusal c.args.self.now r (refusal error))) (sym (ap seen_edit_request c.in-Delete.is) ∙ c.variant.ensures.variant) c.draft_delete.ensures.err
