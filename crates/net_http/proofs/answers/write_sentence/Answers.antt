use Rattle.std.proofs.Common.{◌∙◌, ap, List, ℕ}
use Rattle.std.proofs.lemmas.Result.{IfOk-weaker}
use Rattle.net_http.specs.declared.texts.ContentType.TheVariants as kind
use Rattle.net_http.specs.Answers.{answer_text}
use Rattle.net_http.specs.Sites.{seen_site}
use Rattle.net_http.proofs.answers.write_sentence.Goals as goal

pub returns : goal.returns
returns c =
    IfOk-weaker c.write_answer.result _ _
    (λ a h. h ∙ ap (λ (body : List ℕ). answer_text (seen_site c.args.site.now) c.args.status kind.Text body c.args.wants_body) (c.as_bytes.ensures.value ∙ c.sentence.ensures))
    c.write_answer.ensures
