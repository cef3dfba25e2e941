use Rattle.std.proofs.Common.{rules, ◌≡◌, ◌<◌, ◌^◌, ◌∙◌, arith}
use Rattle.net_http.specs.Answers.{answer_head_text}
use Rattle.net_http.specs.Sites.{seen_site}
use Rattle.net_http.proofs.ResponseLemmas.{head_text_reads}
use Rattle.net_http.proofs.answers.write_head.Goals as goal

pub returns-clause-response : goal.returns-clause-response
returns-clause-response c =
    let small : c.args.length < 2 ^ 64 = omega arith in
    let reads = head_text_reads (seen_site c.args.site.now) c.args.status c.args.kind c.args.length c.args.site.now.identified small in
    let same : c.into_bytes.result.items ≡ answer_head_text (seen_site c.args.site.now) c.args.status c.args.kind c.args.length = search rules in
    (reads.0, same ∙ reads.1)
