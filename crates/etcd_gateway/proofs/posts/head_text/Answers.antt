use Rattle.std.proofs.Common.{sym, ◌∙◌, codes, decimal, string_bytes}
use Rattle.std.proofs.lemmas.Result.{IfOk-weaker}
use Rattle.httparse.specs.Ascii.{crlf_bytes}
use Rattle.net_heads.specs.Written.{field_line}
use Rattle.etcd_gateway.specs.Posts.{call_path}
use Rattle.etcd_gateway.proofs.PostLemmas.{head_regroup}
use Rattle.etcd_gateway.proofs.posts.head_text.Goals as goal

pub returns : goal.returns
returns c =
    IfOk-weaker c.format.result _ _
    (λ s h. h
    ∙ rw (c.path-path.ensures, c.as_str-host.ensures.value)
    (sym (head_regroup (codes "POST ") (call_path c.args.asked) (codes " HTTP/1.1") crlf_bytes
    (codes "Host") (codes ": ") (string_bytes c.args.host.now.text)
    (field_line (codes "Content-Type") (codes "application/json"))
    (codes "Content-Length") (decimal c.args.length))))
    c.format.ensures.ok
