use Rattle.std.proofs.Common.{inr, subst}
use Rattle.std.proofs.lemmas.Result.{IfOk-weaker}
use Rattle.canvas_judge.specs.Seen.{seen_message}
use Rattle.canvas_embed.specs.Changed.{MayChange}
use Rattle.canvas_embed.specs.Ids.{EncodesIds}
use Rattle.canvas_embed.proofs.changed.changed_text.Goals as goal

pub returns-in-These : goal.returns-in-These
returns-in-These c =
    IfOk-weaker c.ids_text.result _ _ (λ text is old new answer r.
    inr (c.in-These.ids.items, subst (EncodesIds text.items) c.deref.ensures.value is, subst (λ named. MayChange named (seen_message c.args.message.now)) c.in-These.is c.in_ok-changed.ensures old new answer r)) c.ids_text.ensures
