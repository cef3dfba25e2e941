-- The head of an answer as a head of HTTP's grammar.
use Rattle.std.specs.Prelude.{ℕ, List, [], ◌∷◌, codes, Some}
use Rattle.std.specs.Fmt.{decimal}
use Rattle.httparse.specs.Grammar.{crlf, Field, ResponseHead}
use Rattle.net_heads.specs.Written.{field}
use Rattle.net_http.specs.declared.texts.ContentType.{ContentType}
use Rattle.net_http.specs.declared.texts.Status.{Status}
use Rattle.net_http.specs.declared.texts.Status.TheVariants as status
use Rattle.net_http.specs.Answers.{page_policy}
use Rattle.net_http.specs.Sites.{SiteValue}
use Rattle.net_http.specs.Texts.{type_of}

-- the three digits of a status
abbrev pub digits_of : Status → List ℕ
digits_of status.Ok = codes "200"
digits_of status.BadRequest = codes "400"
digits_of status.Forbidden = codes "403"
digits_of status.NotFound = codes "404"
digits_of status.NotAllowed = codes "405"
digits_of status.Misdirected = codes "421"
digits_of status.UpgradeRequired = codes "426"
digits_of status.Unavailable = codes "503"

-- the phrase of a status
abbrev pub phrase_of : Status → List ℕ
phrase_of status.Ok = codes "OK"
phrase_of status.BadRequest = codes "Bad Request"
phrase_of status.Forbidden = codes "Forbidden"
phrase_of status.NotFound = codes "Not Found"
phrase_of status.NotAllowed = codes "Method Not Allowed"
phrase_of status.Misdirected = codes "Misdirected Request"
phrase_of status.UpgradeRequired = codes "Upgrade Required"
phrase_of status.Unavailable = codes "Service Unavailable"

-- the fields of this status alone
abbrev pub own_fields : Status → List Field
own_fields status.Ok = []
own_fields status.BadRequest = []
own_fields status.Forbidden = []
own_fields status.NotFound = []
own_fields status.NotAllowed = field (codes "Allow") (codes "GET, HEAD") ∷ []
own_fields status.Misdirected = []
own_fields status.UpgradeRequired =
    field (codes "Upgrade") (codes "websocket") ∷ field (codes "Sec-WebSocket-Version") (codes "13") ∷ []
own_fields status.Unavailable = field (codes "Retry-After") (codes "5") ∷ []

-- the fields of an answer
abbrev pub fields_of_answer : SiteValue → Status → ContentType → ℕ → List Field
fields_of_answer site status kind size =
    field (codes "Content-Type") (type_of kind)
    ∷ field (codes "Content-Length") (decimal size)
    ∷ field (codes "Connection") (codes "close")
    ∷ field (codes "Cache-Control") (codes "no-store")
    ∷ field (codes "X-Content-Type-Options") (codes "nosniff")
    ∷ field (codes "Content-Security-Policy") page_policy
    ∷ field (codes "Lugcurrant-Document") site.identity
    ∷ own_fields status

-- an answer's head is HTTP/1.1, with this status and these fields
abbrev pub response_of : SiteValue → Status → ContentType → ℕ → ResponseHead
response_of site status kind size = record {
  blank = [];
  minor = 1;
  digits = digits_of status;
  reason = Some (phrase_of status);
  line_end = crlf;
  fields = fields_of_answer site status kind size;
  last = crlf;
}
