use Rattle.std.proofs.Common.{rules, ◌≡◌, ◌∙◌, ap}
use Rattle.canvas_c.specs.declared.session.Session.{Session}
use Rattle.canvas_c.proofs.loaded.Goals as goal

pub returns-in-Ok-new-clause-only : goal.returns-in-Ok-new-clause-only
returns-in-Ok-new-clause-only c = λ client spells. ap (λ (s : Session). s.client) c.in-Ok-new.ensures.ok ∙ c.in-Ok.ensures.only client spells
