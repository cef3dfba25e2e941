use Rattle.std.proofs.Common.{◌≡◌, ◌∙◌, ap, refl, sym, append_assoc}
use Rattle.std.specs.Prelude.{string_bytes}
use Rattle.std.proofs.lemmas.Result.{IfOk-weaker}
use Rattle.disk_integrity.specs.declared.loss.Loss.{Loss}
use Rattle.disk_integrity.specs.declared.loss.Loss.TheVariants.{NoCheckpoint, NoCutRecord}
use Rattle.app_admin.specs.LossLines.{loss_line}
use Rattle.app_admin.proofs.checking.loss_line.Goals as goal

pub returns-in-NoCheckpoint : goal.returns-in-NoCheckpoint
returns-in-NoCheckpoint c =
    IfOk-weaker c.format.result _ _
    (λ s h.
    let flat : string_bytes s ≡ loss_line (NoCheckpoint c.in-NoCheckpoint.segment c.in-NoCheckpoint.offset) = h ∙ simp append_assoc refl in
    flat ∙ ap (λ (x : Loss). loss_line x) (sym c.in-NoCheckpoint.is))
    c.format.ensures.ok

pub returns-in-NoCutRecord : goal.returns-in-NoCutRecord
returns-in-NoCutRecord c =
    IfOk-weaker c.format-in-NoCutRecord.result _ _
    (λ s h.
    let flat : string_bytes s ≡ loss_line (NoCutRecord c.in-NoCutRecord.segment c.in-NoCutRecord.offset) = h ∙ simp append_assoc refl in
    flat ∙ ap (λ (x : Loss). loss_line x) (sym c.in-NoCutRecord.is))
    c.format-in-NoCutRecord.ensures.ok
