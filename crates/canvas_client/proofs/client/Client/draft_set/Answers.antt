use Rattle.std.proofs.Common.{◌≡◌, Some, ap, sym, subst, ◌∙◌}
use Rattle.canvas_model.specs.Change as change
use Rattle.canvas_model.specs.Local.{Set}
use Rattle.canvas_model.specs.Value.{IsShallow}
use Rattle.canvas_client.proofs.Drafted.{plain_full, plain_makes}
use Rattle.canvas_client.proofs.client.Client.draft_set.Goals as goal

pub returns-then-is_full-clause-err : goal.returns-then-is_full-clause-err
returns-then-is_full-clause-err g c = plain_full c.args.self.now (Set c.args.id c.args.name.now c.args.value.now) c.requires.none (λ h. h) (λ h. h.0) (c.is_full.ensures.0 c.if-is_full.true)

pub property_change-requires : goal.property_change-requires
property_change-requires g c = subst IsShallow (sym c.in_ok-value.ensures) c.requires.shallow

pub returns-clause-ok : goal.returns-clause-ok
returns-clause-ok g c =
    let set : c.in_ok-property_change.field-0 ≡ change.Set c.args.id c.args.name.now (Some c.args.value.now) =
    c.in_ok-property_change.ensures ∙ ap (λ value. change.Set c.args.id c.args.name.now (Some value)) c.in_ok-value.ensures
    in
    plain_makes c.args.self.now (Set c.args.id c.args.name.now c.args.value.now) c.requires.none (λ h. h) (λ h. h.0) c.in_ok-property_change.field-0
    (λ e. let t = c.is_full.ensures.1 e in let f = c.if-is_full.false in absurd (cc)) (λ client. set)
