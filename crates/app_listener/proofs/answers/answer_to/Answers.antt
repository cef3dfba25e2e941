use Rattle.std.proofs.Common.{◌∙◌, List, ℕ, ap}
use Rattle.std.proofs.lemmas.Result.{IfOk-weaker}
use Rattle.net_http.specs.declared.texts.ContentType.TheVariants as kind
use Rattle.net_http.specs.declared.texts.Status.{Status}
use Rattle.net_http.specs.declared.texts.Status.TheVariants as status
use Rattle.net_http.specs.Answers.{answer_text, sentence_text}
use Rattle.net_http.specs.Sites.{seen_site}
use Rattle.app_listener.proofs.answers.answer_to.Goals as goal

pub returns-in_ok-line-in-Health : goal.returns-in_ok-line-in-Health
returns-in_ok-line-in-Health c =
    let text = λ (body : List ℕ). answer_text (seen_site c.args.shared.now.site) status.Ok kind.Text body c.args.request.now.wants_body in
    rw c.in-Health.is (IfOk-weaker c.own_answer.result _ _
    (λ answer h. (c.numbers.result, h ∙ ap text (c.as_bytes.ensures.value ∙ c.in_ok-line-in-Health.ensures)))
    c.own_answer.ensures)

pub returns-in_ok-text-in-Metrics : goal.returns-in_ok-text-in-Metrics
returns-in_ok-text-in-Metrics c =
    let text = λ (body : List ℕ). answer_text (seen_site c.args.shared.now.site) status.Ok kind.Metrics body c.args.request.now.wants_body in
    rw c.in-Metrics.is (IfOk-weaker c.own_answer-in-Metrics.result _ _
    (λ answer h. (c.numbers-in-Metrics.result, h ∙ ap text (c.as_bytes-in-Metrics.ensures.value ∙ c.in_ok-text-in-Metrics.ensures)))
    c.own_answer-in-Metrics.ensures)

pub returns-in_ok-line-in-Document : goal.returns-in_ok-line-in-Document
returns-in_ok-line-in-Document c =
    let text = λ (body : List ℕ). answer_text (seen_site c.args.shared.now.site) status.Ok kind.Text body c.args.request.now.wants_body in
    rw c.in-Document.is (IfOk-weaker c.own_answer-in-Document.result _ _
    (λ answer h. h ∙ ap text (c.as_bytes-in-Document.ensures.value ∙ c.in_ok-line-in-Document.ensures))
    c.own_answer-in-Document.ensures)

pub returns-in-Refused : goal.returns-in-Refused
returns-in-Refused c =
    let text = λ (s : Status). sentence_text (seen_site c.args.shared.now.site) s c.args.request.now.wants_body in
    rw c.in-Refused.is (IfOk-weaker c.own_sentence.result _ _ (λ answer h. h ∙ ap text c.status.ensures) c.own_sentence.ensures)
