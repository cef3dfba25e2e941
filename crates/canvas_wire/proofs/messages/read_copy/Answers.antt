use Rattle.std.proofs.Common.{codes, refl, ap, sym, subst, ◌∙◌}
use Rattle.serde_json.specs.Data.{no_items, item}
use Rattle.serde_json.specs.View.{view, items_view}
use Rattle.canvas_codec.specs.Parts.{whole_in}
use Rattle.canvas_codec.specs.Faults.{RefusesShape}
use Rattle.canvas_forms.specs.Version.{version_two}
use Rattle.canvas_forms.specs.Rows.{rows_form}
use Rattle.canvas_forms.proofs.Members.{not_three}
use Rattle.canvas_wire.specs.Messages.{message_after}
use Rattle.canvas_wire.proofs.Message.{unread_copy, copy_read, copy_refused}
use Rattle.canvas_wire.proofs.messages.read_copy.Goals as goal

pub returns-in_default-clause-fault : goal.returns-in_default-clause-fault
returns-in_default-clause-fault g c =
    unread_copy (items_view c.args.rest.now) (not_three (whole_in 0 4611686018427387904) (whole_in 0 4611686018427387904) rows_form.read (items_view c.args.rest.now) c.in_default.ensures.none)

pub returns-in_default-whole-clause-fault : goal.returns-in_default-whole-clause-fault
returns-in_default-whole-clause-fault g c =
    ap (message_after version_two (codes "copy")) c.in-Some.ensures.some
    ∙ unread_copy (item (view c.in-Some.version.now) (item (view c.in-Some.done.now) (item (view c.in-Some.rows.now) no_items))) (rw (sym c.whole.ensures ∙ c.in_default-whole.is) refl)

pub returns-in_default-whole-2-clause-fault : goal.returns-in_default-whole-2-clause-fault
returns-in_default-whole-2-clause-fault g c =
    ap (message_after version_two (codes "copy")) c.in-Some.ensures.some
    ∙ unread_copy (item (view c.in-Some.version.now) (item (view c.in-Some.done.now) (item (view c.in-Some.rows.now) no_items))) (rw (sym c.whole.ensures ∙ c.in-Some-whole.is, sym c.whole-2.ensures ∙ c.in_default-whole-2.is) refl)

pub returns-in-Ok-clause-ok : goal.returns-in-Ok-clause-ok
returns-in-Ok-clause-ok g c =
    ap (message_after version_two (codes "copy")) c.in-Some.ensures.some ∙ copy_read (view c.in-Some.version.now) (view c.in-Some.done.now) (view c.in-Some.rows.now) c.in-Some-whole.version c.in-Some-whole-2.done c.in-Some-whole.version_fits c.in-Some-whole-2.done_fits (sym c.whole.ensures ∙ c.in-Some-whole.is) (sym c.whole-2.ensures ∙ c.in-Some-whole-2.is) c.in-Ok.objects.items c.in-Ok.fits c.in-Ok.ensures.ok

pub returns-in-Err-clause-fault : goal.returns-in-Err-clause-fault
returns-in-Err-clause-fault g c =
    subst (λ ds. RefusesShape (message_after version_two (codes "copy") ds) c.in-Err.e) (sym c.in-Some.ensures.some) (copy_refused (view c.in-Some.version.now) (view c.in-Some.done.now) (view c.in-Some.rows.now) c.in-Some-whole.version c.in-Some-whole-2.done c.in-Some-whole.version_fits c.in-Some-whole-2.done_fits (sym c.whole.ensures ∙ c.in-Some-whole.is) (sym c.whole-2.ensures ∙ c.in-Some-whole-2.is) c.in-Err.e c.in-Err.ensures.fault)
