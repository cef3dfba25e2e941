-- What bytes ask for.
use Rattle.std.specs.Prelude.{◌≡◌, ◌⊎◌, ℕ, ◌≤◌, List, true, length}
use Rattle.httparse.specs.Grammar.{RequestHead, HasNoRequest, NeverHasRequest}
use Rattle.httparse.specs.Spans.{RequestOverflows}
use Rattle.net_http.specs.declared.asked.Endpoint.TheVariants as asked
use Rattle.net_http.specs.declared.asked.HttpRefusal.TheVariants as refusal
use Rattle.net_http.specs.declared.head.HttpRequest.{HttpRequest}
use Rattle.net_http.specs.Heads.{Begins, field_limit, request_of}
use Rattle.net_http.specs.Sites.{SiteValue}

-- no head will ever be read: no request begins so, or only ones of too many fields, or none is whole though there are 8 KiB
abbrev pub IsNoHead : List ℕ → Type 0
IsNoHead bytes = NeverHasRequest bytes ⊎ RequestOverflows field_limit bytes ⊎ (HasNoRequest bytes × (8192 ≤ length bytes))

-- what is answered where there is none
abbrev pub bad_request : List ℕ → HttpRequest
bad_request bytes = record { asked = asked.Refused refusal.BadRequest; wants_body = true; length = length bytes }

-- the request is that of a head that the bytes begin with, or a bad one where no head will be read
abbrev pub IsRequestIn : SiteValue → List ℕ → HttpRequest → Type 0
IsRequestIn site bytes request =
    ((head : RequestHead) × Begins bytes head × (request ≡ request_of site head)) ⊎ (IsNoHead bytes × (request ≡ bad_request bytes))
