use Rattle.std.proofs.Common.{◌≡◌, refl, ◌≤◌, ◌+◌, ◌-◌, ◌∙◌, sym, ap, length, subst}
use Rattle.std.specs.Prelude.{Some, slice_get}
use Rattle.std.specs.Option.{option_copied}
use Rattle.std.proofs.lemmas.Option.{get_or_from_slice_get}
use Rattle.canvas_model.specs.Client.{Client}
use Rattle.canvas_model.specs.Messages as messages
use Rattle.canvas_client.specs.Receives.{IsWaiting}
use Rattle.canvas_client.proofs.Keeping.{message_waits}
use Rattle.canvas_client.proofs.client.Client.message.Goals as goal

pub returns : goal.returns
returns g c =
    let inner : Client = record { id = c.self.inside.id; counter = c.self.inside.counter; version = c.self.inside.version; acknowledged = c.self.inside.acknowledged; waiting = c.self.inside.merged.waiting; view = c.self.inside.merged.shown.doc } in
    let waits : slice_get c.self.inside.merged.waiting (c.args.i - 1) ≡ Some c.unwrap.result.now = sym c.get.ensures ∙ ap option_copied c.unwrap.ensures in
    let there = c.in_ok-change.ensures ∙ sym (get_or_from_slice_get c.self.inside.merged.waiting (c.args.i - 1) c.unwrap.result.now c.in_ok-change.change waits) in
    let message = messages.Edit c.unwrap_or-client.result (c.self.inside.acknowledged + c.args.i) c.in_ok-change.change in
    subst (λ x. IsWaiting x c.args.i message) c.self.view_is
    (message_waits inner c.args.i c.unwrap_or-client.result c.in_ok-change.change message c.self.invariant c.requires.least (subst (λ (x : Client). c.args.i ≤ length x.waiting) (sym c.self.view_is) c.requires.most) c.unwrap_or-client.ensures there refl)
