use Rattle.std.proofs.Common.{◌≡◌, ◌∙◌, ap, refl, sym, append_assoc}
use Rattle.std.specs.Prelude.{string_bytes}
use Rattle.std.proofs.lemmas.Result.{IfOk-weaker}
use Rattle.disk_integrity.specs.declared.fault.SumFault.{SumFault}
use Rattle.disk_integrity.specs.declared.fault.SumFault.TheVariants.{Unreadable, Short, Changed}
use Rattle.app_admin.specs.LossLines.{sums_line}
use Rattle.app_admin.proofs.checking.sums_line.Goals as goal

pub returns-in-Unreadable : goal.returns-in-Unreadable
returns-in-Unreadable c =
    IfOk-weaker c.format.result _ _
    (λ s h.
    let flat : string_bytes s ≡ sums_line c.args.segment (Unreadable c.in-Unreadable.good) = h ∙ simp append_assoc refl in
    flat ∙ ap (λ (x : SumFault). sums_line c.args.segment x) (sym c.in-Unreadable.is))
    c.format.ensures.ok

pub returns-in-Short : goal.returns-in-Short
returns-in-Short c =
    IfOk-weaker c.format-in-Short.result _ _
    (λ s h.
    let flat : string_bytes s ≡ sums_line c.args.segment (Short c.in-Short.good c.in-Short.named) = h ∙ simp append_assoc refl in
    flat ∙ ap (λ (x : SumFault). sums_line c.args.segment x) (sym c.in-Short.is))
    c.format-in-Short.ensures.ok

pub returns-in-Changed : goal.returns-in-Changed
returns-in-Changed c =
    IfOk-weaker c.format-in-Changed.result _ _
    (λ s h.
    let flat : string_bytes s ≡ sums_line c.args.segment (Changed c.in-Changed.good c.in-Changed.named) = h ∙ simp append_assoc refl in
    flat ∙ ap (λ (x : SumFault). sums_line c.args.segment x) (sym c.in-Changed.is))
    c.format-in-Changed.ensures.ok
