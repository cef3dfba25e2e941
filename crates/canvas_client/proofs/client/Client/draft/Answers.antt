use Rattle.std.proofs.Common.{sym, ◌∙◌}
use Rattle.canvas_client.specs.Asked.{refusal}
use Rattle.canvas_client.proofs.Refusing.{closed, is_refusal}
use Rattle.canvas_client.proofs.client.Client.draft.Goals as goal

pub returns-in_default : goal.returns-in_default
returns-in_default g c = record { ok = tt; err = closed c.args.self.now c.args.request.now (sym c.id.ensures ∙ c.in_default.is) }

pub refusal_shown-requires : goal.refusal_shown-requires
refusal_shown-requires g c none = let some = c.in-Some.is in let id = c.id.ensures in absurd (cc)

pub returns-in-Some-refusal_shown : goal.returns-in-Some-refusal_shown
returns-in-Some-refusal_shown g c = record { ok = tt; err = is_refusal c.args.self.now c.args.request.now (refusal c.in-Some-refusal_shown.error) c.in-Some-refusal_shown.ensures.some }
