-- The table from a request's head to what it asks for.
use Rattle.std.specs.Prelude.{ℕ, Bool, ◌&&◌, ◌||◌, not, List, [], ◌∷◌, ◌++◌, length, map, codes, if◌then◌else◌, ◌==◌, nat_eq, nat_le, Option, None, Some, unwrap_or}
use Rattle.std.specs.List.{list_all, list_any, starts_with, before_first}
use Rattle.std.specs.Str.{bytes_eq}
use Rattle.httparse.specs.Grammar.{RequestHead}
use Rattle.httparse.specs.Spans.{name_and_value}
use Rattle.net_heads.specs.Fields.{NamesAndValues, is_same_word, values_named}
use Rattle.net_http.specs.declared.asked.Endpoint.{Endpoint}
use Rattle.net_http.specs.declared.asked.Endpoint.TheVariants as asked
use Rattle.net_http.specs.declared.asked.PageFile.{PageFile}
use Rattle.net_http.specs.declared.asked.PageFile.TheVariants as file
use Rattle.net_http.specs.declared.asked.HttpRefusal.TheVariants as refusal
use Rattle.net_http.specs.Fields.{is_handshake}
use Rattle.net_http.specs.Hosts.{is_own_host}
use Rattle.net_http.specs.Offers.{offered}
use Rattle.net_http.specs.Sites.{SiteValue}

-- the byte before a query
abbrev pub question_mark : ℕ
question_mark = 63

-- the path is the target up to its first question mark
abbrev pub path_of : List ℕ → List ℕ
path_of target = before_first (λ b. b == question_mark) target

-- the target begins with a slash
abbrev pub has_path : List ℕ → Bool
has_path target = starts_with nat_eq target (codes "/")

-- a request is well formed where it names at most one origin, and its target begins with a slash
abbrev pub is_well_formed : List ℕ → NamesAndValues → Bool
is_well_formed target fields = nat_le (length (values_named (codes "origin") fields)) 1 && has_path target

-- the document is at the paths `/` and `/document`, and at `/document/` with its identity
abbrev pub is_document_path : SiteValue → List ℕ → Bool
is_document_path site path =
    bytes_eq path (codes "/") || bytes_eq path (codes "/document") || bytes_eq path (codes "/document/" ++ site.identity)

-- the origin is this host's, by HTTP or HTTPS
abbrev pub is_origin_of : List ℕ → List ℕ → Bool
is_origin_of host origin = is_same_word origin (codes "http://" ++ host) || is_same_word origin (codes "https://" ++ host)

-- the site names the origin
abbrev pub is_named : SiteValue → List ℕ → Bool
is_named site origin = list_any (λ named. bytes_eq named origin) site.origins

-- an origin is welcome where it is that of the host that was asked, or where the site names it
abbrev pub is_welcome : SiteValue → List (List ℕ) → List ℕ → Bool
is_welcome site hosts origin = list_any (λ host. is_origin_of host origin) hosts || is_named site origin

-- a handshake gets what it offers to get where it is a GET, the document is at its path, and its origin, if it names one, is welcome
abbrev pub asked_by_handshake : SiteValue → List ℕ → List ℕ → List (List ℕ) → List (List ℕ) → Endpoint → Endpoint
asked_by_handshake site method path hosts origins offer =
    if not (bytes_eq method (codes "GET")) then asked.Refused refusal.NotAllowed
    else if not (is_document_path site path) then asked.Refused refusal.NotFound
    else if not (list_all (is_welcome site hosts) origins) then asked.Refused refusal.Forbidden
    else offer

-- what stands at a path in a list of paths
abbrev pub value_at : {A : Type 0} → List ℕ → List (List ℕ × A) → Option A
value_at path [] = None
value_at path (row ∷ rows) = if bytes_eq path row.0 then Some row.1 else value_at path rows

-- what every site has
abbrev pub site_paths : List (List ℕ × Endpoint)
site_paths = (codes "/health", asked.Health) ∷ (codes "/metrics", asked.Metrics) ∷ (codes "/document", asked.Document) ∷ []

-- the files of a page
abbrev pub page_files : List (List ℕ × PageFile)
page_files =
    (codes "/", file.Index)
    ∷ (codes "/index.html", file.Index)
    ∷ (codes "/page.js", file.Script)
    ∷ (codes "/worker.js", file.Worker)
    ∷ (codes "/lugcurrant.js", file.Library)
    ∷ (codes "/canvas.wasm", file.Module)
    ∷ (codes "/page.css", file.Style)
    ∷ (codes "/favicon.svg", file.Icon)
    ∷ []

-- the page's file at a path, where the site has a page
abbrev pub file_at : SiteValue → List ℕ → Option PageFile
file_at site path = if site.has_page then value_at path page_files else None

-- a file that is there is served, and what isn't there is not found
abbrev pub asked_file : Option PageFile → Endpoint
asked_file None = asked.Refused refusal.NotFound
asked_file (Some f) = asked.File f

-- a method that reads
abbrev pub is_reading : List ℕ → Bool
is_reading method = bytes_eq method (codes "GET") || bytes_eq method (codes "HEAD")

-- what is no handshake gets what every site has at its path, or else the page's file, where its method reads
abbrev pub asked_by_page : SiteValue → List ℕ → List ℕ → Endpoint
asked_by_page site method path =
    if not (is_reading method) then asked.Refused refusal.NotAllowed
    else unwrap_or (value_at path site_paths) (asked_file (file_at site path))

-- what a request to this host asks for
abbrev pub asked_here : SiteValue → ℕ → List ℕ → List ℕ → List (List ℕ) → NamesAndValues → Endpoint
asked_here site minor method target hosts fields =
    if not (is_well_formed target fields) then asked.Refused refusal.BadRequest
    else if is_handshake fields
    then asked_by_handshake site method (path_of target) hosts (values_named (codes "origin") fields) (offered minor fields)
    else asked_by_page site method (path_of target)

-- what a request of HTTP/1.`minor`, and of this method, target and fields asks for: it has to name one host, which has to be the site's
abbrev pub asked_for : SiteValue → ℕ → List ℕ → List ℕ → NamesAndValues → Endpoint
asked_for site minor method target fields =
    if not (length (values_named (codes "host") fields) == 1) then asked.Refused refusal.BadRequest
    else if not (list_all (is_own_host site) (values_named (codes "host") fields)) then asked.Refused refusal.Misdirected
    else asked_here site minor method target (values_named (codes "host") fields) fields

-- what a request of this head asks for
abbrev pub endpoint_of : SiteValue → RequestHead → Endpoint
endpoint_of site head = asked_for site head.minor head.method head.target (map name_and_value head.fields)
