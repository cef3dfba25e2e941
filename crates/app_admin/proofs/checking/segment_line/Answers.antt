use Rattle.std.proofs.Common.{◌≡◌, ◌∙◌, ℕ, length, ap, refl, append_assoc}
use Rattle.std.specs.Prelude.{string_bytes}
use Rattle.std.proofs.lemmas.Result.{IfOk-weaker}
use Rattle.app_admin.specs.Checks.{segment_text}
use Rattle.app_admin.proofs.checking.segment_line.Goals as goal

pub returns : goal.returns
returns c =
    let n = c.args.number in
    let size = length c.args.bytes.now in
    IfOk-weaker c.format.result _ _
    (λ s h.
    let flat : string_bytes s ≡ segment_text n size c.measure-whole.result.0 c.measure-whole.result.1 = h ∙ simp append_assoc refl in
    flat ∙ ap (λ (k : ℕ). segment_text n size k c.measure-whole.result.1) c.measure-whole.ensures.whole ∙ ap (segment_text n size _) c.measure-whole.ensures.torn)
    c.format.ensures.ok
