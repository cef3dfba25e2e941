use Rattle.std.proofs.Common.{◌∙◌, refl, append_assoc}
use Rattle.std.proofs.lemmas.Result.{IfOk-weaker}
use Rattle.rally.proofs.rallying.rally_line.Goals as goal

pub returns : goal.returns
returns c = IfOk-weaker c.format.result _ _ (λ s h. h ∙ rw c.equal_word-word.ensures (simp append_assoc refl)) c.format.ensures.ok
