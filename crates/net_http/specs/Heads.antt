-- What a request's head says, and when bytes have none.
use Rattle.std.specs.Prelude.{ℕ, ◌≤◌, Bool, not, List, length, codes}
use Rattle.std.specs.Str.{bytes_eq}
use Rattle.httparse.specs.Grammar.{RequestHead, print_request, ReadsRequest}
use Rattle.net_http.specs.declared.head.HttpRequest as declared
use Rattle.net_http.specs.Sites.{SiteValue}
use Rattle.net_http.specs.Table.{endpoint_of}

-- the answer to HEAD has no body, and every other answer has one
abbrev pub wants_body : List ℕ → Bool
wants_body method = not (bytes_eq method (codes "HEAD"))

-- what the request of a head is
abbrev pub request_of : SiteValue → RequestHead → declared.HttpRequest
request_of site head = record {
  asked = endpoint_of site head;
  wants_body = wants_body head.method;
  length = length (print_request head);
}

-- the most fields of a head
abbrev pub field_limit : ℕ
field_limit = 64

-- the bytes begin with this head, and it has at most 64 fields
abbrev pub Begins : List ℕ → RequestHead → Type 0
Begins bytes head = ((rest : List ℕ) × ReadsRequest bytes head rest) × (length head.fields ≤ field_limit)
