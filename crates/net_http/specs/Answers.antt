-- The bytes of answers.
use Rattle.std.specs.Prelude.{ℕ, Bool, List, [], ◌++◌, length, codes, if◌then◌else◌}
use Rattle.std.specs.Fmt.{decimal}
use Rattle.httparse.specs.Ascii.{crlf_bytes}
use Rattle.net_heads.specs.Written.{field_line}
use Rattle.net_http.specs.declared.texts.ContentType.{ContentType}
use Rattle.net_http.specs.declared.texts.ContentType.TheVariants as kind
use Rattle.net_http.specs.declared.texts.Status.{Status}
use Rattle.net_http.specs.Sites.{SiteValue}
use Rattle.net_http.specs.Texts.{status_text, sentence_of, fields_of, type_of}

-- a page may run its own scripts and WebAssembly, connect to its host, and stand in no frame
abbrev pub page_policy : List ℕ
page_policy =
    codes "default-src 'self'; script-src 'self' 'wasm-unsafe-eval'; connect-src 'self' ws: wss:; "
    ++ codes "base-uri 'none'; form-action 'none'; frame-ancestors 'none'"

-- the head of an answer: its status, what follows it and how much, that the connection ends, what a browser may do, and which document this is
abbrev pub answer_head_text : SiteValue → Status → ContentType → ℕ → List ℕ
answer_head_text site status kind size =
    codes "HTTP/1.1 " ++ status_text status ++ crlf_bytes
    ++ field_line (codes "Content-Type") (type_of kind)
    ++ field_line (codes "Content-Length") (decimal size)
    ++ field_line (codes "Connection") (codes "close")
    ++ field_line (codes "Cache-Control") (codes "no-store")
    ++ field_line (codes "X-Content-Type-Options") (codes "nosniff")
    ++ field_line (codes "Content-Security-Policy") page_policy
    ++ field_line (codes "Lugcurrant-Document") site.identity
    ++ fields_of status
    ++ crlf_bytes

-- an answer is its head and, where it is wanted, its body
abbrev pub answer_text : SiteValue → Status → ContentType → List ℕ → Bool → List ℕ
answer_text site status kind body wants = answer_head_text site status kind (length body) ++ (if wants then body else [])

-- an answer whose body is its status in a sentence
abbrev pub sentence_text : SiteValue → Status → Bool → List ℕ
sentence_text site status wants = answer_text site status kind.Text (sentence_of status) wants
