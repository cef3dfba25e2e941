use Rattle.std.proofs.Common.{sym, ◌∙◌, codes, decimal, string_bytes}
use Rattle.std.proofs.lemmas.Result.{IfOk-weaker}
use Rattle.httparse.specs.Ascii.{crlf_bytes}
use Rattle.net_http.specs.Answers.{page_policy}
use Rattle.net_heads.specs.Written.{field_line}
use Rattle.net_http.specs.Texts.{fields_of, status_text, type_of}
use Rattle.net_http.proofs.HeadLines.{head_regroup}
use Rattle.net_http.proofs.answers.head_text.Goals as goal

pub returns : goal.returns
returns c =
    IfOk-weaker c.format.result _ _
    (λ s h. h
    ∙ rw (c.reason-reason.ensures, c.value-kind.ensures, c.as_str-identity.ensures.value, c.fields-fields.ensures)
    (sym (head_regroup (codes "HTTP/1.1 ") (status_text c.args.status) crlf_bytes
    (codes "Content-Type") (codes ": ") (type_of c.args.kind) (codes "Content-Length") (decimal c.args.length)
    (field_line (codes "Connection") (codes "close"))
    (field_line (codes "Cache-Control") (codes "no-store"))
    (field_line (codes "X-Content-Type-Options") (codes "nosniff"))
    (field_line (codes "Content-Security-Policy") page_policy)
    (codes "Lugcurrant-Document") (string_bytes c.args.site.now.identity) (fields_of c.args.status))))
    c.format.ensures.ok
