use Rattle.std.proofs.Common.{◌≡◌, ◌∙◌, ℕ, List, length, ap, refl, append_assoc}
use Rattle.std.specs.Prelude.{string_bytes}
use Rattle.std.proofs.lemmas.Result.{IfOk-weaker}
use Rattle.canvas_shelf.specs.Records.{texts}
use Rattle.app_admin.specs.Checks.{taken_text}
use Rattle.app_admin.proofs.checking.line_of.Goals as goal

pub returns-in-Some : goal.returns-in-Some
returns-in-Some c =
    let past = c.measure-past.ensures.whole ∙ ap (λ (l : List ℕ). length (texts l)) c.deref.ensures.value in
    rw c.in-Some.is (IfOk-weaker c.format.result _ _
    (λ s h.
    let flat : string_bytes s ≡ taken_text c.in-Some.taken.number c.args.version c.measure-past.result.0 = h ∙ simp append_assoc refl in
    flat ∙ ap (taken_text c.in-Some.taken.number c.args.version) past)
    c.format.ensures.ok)
