use Rattle.canvas_model.specs.Local.{Clear}
use Rattle.canvas_client.proofs.Drafted.{plain_full, plain_makes}
use Rattle.canvas_client.proofs.client.Client.draft_clear.Goals as goal

pub returns-then-is_full-clause-err : goal.returns-then-is_full-clause-err
returns-then-is_full-clause-err g c = plain_full c.args.self.now (Clear c.args.id c.args.name.now) c.requires (λ h. h) (λ h. h.0) (c.is_full.ensures.0 c.if-is_full.true)

pub returns-clause-ok : goal.returns-clause-ok
returns-clause-ok g c =
    plain_makes c.args.self.now (Clear c.args.id c.args.name.now) c.requires (λ h. h) (λ h. h.0) c.in_ok-property_change.field-0
    (λ e. let t = c.is_full.ensures.1 e in let f = c.if-is_full.false in absurd (cc)) (λ client. c.in_ok-property_change.ensures)
