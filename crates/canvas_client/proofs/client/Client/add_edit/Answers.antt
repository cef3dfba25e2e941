use Rattle.std.proofs.Common.{◌≡◌, ◌+◌, [], ◌∷◌, length, length-append, sym, ap, subst, ◌∙◌, arith}
use Rattle.canvas_model.specs.Client.{Client, last_number}
use Rattle.canvas_model.specs.Local.{edited}
use Rattle.canvas_client.specs.Asked.{StandsStill}
use Rattle.canvas_client.specs.Kept.{IsKept}
use Rattle.canvas_client.specs.Placed.{MayAdd}
use Rattle.canvas_client.proofs.Edited.{kept_edited, stands_edited, parts_edited}
use Rattle.canvas_client.proofs.client.Client.add_edit.Goals as goal

pub invariant_of-self-2 : goal.invariant_of-self-2
invariant_of-self-2 g c =
    let inner : Client = record { id = c.self.inside.id; counter = c.self.inside.counter; version = c.self.inside.version; acknowledged = c.self.inside.acknowledged; waiting = c.self.inside.merged.waiting; view = c.self.inside.merged.shown.doc } in
    let may : MayAdd inner c.args.change = subst (λ x. MayAdd x c.args.change) (sym c.self.view_is) c.requires in
    let same = parts_edited inner c.args.change c.counter_after-counter.result c.add.new.self.waiting c.add.new.self.shown.doc c.counter_after-counter.ensures c.in_ok-add.ensures.waiting c.in_ok-add.ensures.view in
    subst IsKept (sym same) (kept_edited inner c.args.change may c.self.invariant)

pub returns-clause-ok : goal.returns-clause-ok
returns-clause-ok g c =
    let inner : Client = record { id = c.self.inside.id; counter = c.self.inside.counter; version = c.self.inside.version; acknowledged = c.self.inside.acknowledged; waiting = c.self.inside.merged.waiting; view = c.self.inside.merged.shown.doc } in
    parts_edited inner c.args.change c.counter_after-counter.result c.add.new.self.waiting c.add.new.self.shown.doc c.counter_after-counter.ensures c.in_ok-add.ensures.waiting c.in_ok-add.ensures.view
    ∙ ap (λ x. edited x c.args.change) c.self.view_is

pub returns-clause-stands : goal.returns-clause-stands
returns-clause-stands g c =
    let inner : Client = record { id = c.self.inside.id; counter = c.self.inside.counter; version = c.self.inside.version; acknowledged = c.self.inside.acknowledged; waiting = c.self.inside.merged.waiting; view = c.self.inside.merged.shown.doc } in
    let same = parts_edited inner c.args.change c.counter_after-counter.result c.add.new.self.waiting c.add.new.self.shown.doc c.counter_after-counter.ensures c.in_ok-add.ensures.waiting c.in_ok-add.ensures.view
    ∙ ap (λ x. edited x c.args.change) c.self.view_is
    in
    subst (StandsStill c.args.self.now) (sym same) (stands_edited c.args.self.now c.args.change c.requires)

pub returns-clause-number : goal.returns-clause-number
returns-clause-number g c =
    let inner : Client = record { id = c.self.inside.id; counter = c.self.inside.counter; version = c.self.inside.version; acknowledged = c.self.inside.acknowledged; waiting = c.self.inside.merged.waiting; view = c.self.inside.merged.shown.doc } in
    let grown : length c.add.new.self.waiting ≡ length inner.waiting + 1 = ap length c.in_ok-add.ensures.waiting ∙ length-append inner.waiting (c.args.change ∷ []) in
    let counted = c.len.ensures in
    let was : last_number inner ≡ last_number c.args.self.now = ap last_number c.self.view_is in
    omega (arith, grown, counted, was)
