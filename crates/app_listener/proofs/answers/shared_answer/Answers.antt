use Rattle.std.proofs.Common.{◌∙◌, ℕ, [], Bool, ◌++◌, if◌then◌else◌, ap, length, sym}
use Rattle.std.proofs.lemmas.Result.{IfOk-weaker}
use Rattle.net_http.specs.declared.texts.Status.TheVariants as status
use Rattle.net_http.specs.Answers.{answer_head_text}
use Rattle.net_http.specs.Sites.{seen_site}
use Rattle.app_listener.proofs.answers.shared_answer.Goals as goal

pub returns-then-wants_body : goal.returns-then-wants_body
returns-then-wants_body c =
    let body = c.args.body.now in
    let head = λ (n : ℕ). answer_head_text (seen_site c.args.site.now) status.Ok c.args.kind n in
    let part = λ (w : Bool). if w then body else [] in
    IfOk-weaker c.sharing.result _ _
    (λ reply h. h ∙ ap (λ front. front ++ body) (c.in_ok-head.ensures.text ∙ ap head c.len.ensures.value)
    ∙ ap (λ (w : Bool). head (length body) ++ part w) (sym c.if-wants_body.true))
    c.sharing.ensures
