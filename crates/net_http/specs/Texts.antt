-- The words of answers.
use Rattle.std.specs.Prelude.{ℕ, List, [], ◌++◌, codes}
use Rattle.net_heads.specs.Written.{field_line}
use Rattle.net_http.specs.declared.asked.PageFile.{PageFile}
use Rattle.net_http.specs.declared.asked.PageFile.TheVariants as file
use Rattle.net_http.specs.declared.asked.HttpRefusal.{HttpRefusal}
use Rattle.net_http.specs.declared.asked.HttpRefusal.TheVariants as refusal
use Rattle.net_http.specs.declared.texts.ContentType.{ContentType}
use Rattle.net_http.specs.declared.texts.ContentType.TheVariants as kind
use Rattle.net_http.specs.declared.texts.Status.{Status}
use Rattle.net_http.specs.declared.texts.Status.TheVariants as status

-- a status as a number with its phrase
abbrev pub status_text : Status → List ℕ
status_text status.Ok = codes "200 OK"
status_text status.BadRequest = codes "400 Bad Request"
status_text status.Forbidden = codes "403 Forbidden"
status_text status.NotFound = codes "404 Not Found"
status_text status.NotAllowed = codes "405 Method Not Allowed"
status_text status.Misdirected = codes "421 Misdirected Request"
status_text status.UpgradeRequired = codes "426 Upgrade Required"
status_text status.Unavailable = codes "503 Service Unavailable"

-- a status in a sentence
abbrev pub sentence_of : Status → List ℕ
sentence_of status.Ok = codes "All is well.\n"
sentence_of status.BadRequest = codes "This is no request that can be read here.\n"
sentence_of status.Forbidden = codes "Pages of this origin may not connect here.\n"
sentence_of status.NotFound = codes "There is nothing at this address.\n"
sentence_of status.NotAllowed = codes "Only GET and HEAD are answered here.\n"
sentence_of status.Misdirected = codes "This host name isn't served here. The server's option --host names further ones.\n"
sentence_of status.UpgradeRequired = codes "Only version 13 of WebSocket is served here.\n"
sentence_of status.Unavailable = codes "All seats of this document are taken. Try again soon.\n"

-- the fields of this status alone: what is allowed, which version to speak, or when to come again
abbrev pub fields_of : Status → List ℕ
fields_of status.Ok = []
fields_of status.BadRequest = []
fields_of status.Forbidden = []
fields_of status.NotFound = []
fields_of status.NotAllowed = field_line (codes "Allow") (codes "GET, HEAD")
fields_of status.Misdirected = []
fields_of status.UpgradeRequired =
    field_line (codes "Upgrade") (codes "websocket") ++ field_line (codes "Sec-WebSocket-Version") (codes "13")
fields_of status.Unavailable = field_line (codes "Retry-After") (codes "5")

-- the status of a refusal
abbrev pub status_of : HttpRefusal → Status
status_of refusal.BadRequest = status.BadRequest
status_of refusal.Forbidden = status.Forbidden
status_of refusal.NotFound = status.NotFound
status_of refusal.NotAllowed = status.NotAllowed
status_of refusal.Misdirected = status.Misdirected
status_of refusal.OtherVersion = status.UpgradeRequired

-- a type of content
abbrev pub type_of : ContentType → List ℕ
type_of kind.Text = codes "text/plain; charset=utf-8"
type_of kind.Metrics = codes "text/plain; version=0.0.4; charset=utf-8"
type_of kind.Html = codes "text/html; charset=utf-8"
type_of kind.Script = codes "text/javascript; charset=utf-8"
type_of kind.Wasm = codes "application/wasm"
type_of kind.Style = codes "text/css; charset=utf-8"
type_of kind.Svg = codes "image/svg+xml"

-- the name of a file in the page's folder
abbrev pub name_of : PageFile → List ℕ
name_of file.Index = codes "index.html"
name_of file.Script = codes "page.js"
name_of file.Worker = codes "worker.js"
name_of file.Library = codes "lugcurrant.js"
name_of file.Module = codes "canvas.wasm"
name_of file.Style = codes "page.css"
name_of file.Icon = codes "favicon.svg"

-- the type of a file of the page
abbrev pub content_type_of : PageFile → ContentType
content_type_of file.Index = kind.Html
content_type_of file.Script = kind.Script
content_type_of file.Worker = kind.Script
content_type_of file.Library = kind.Script
content_type_of file.Module = kind.Wasm
content_type_of file.Style = kind.Style
content_type_of file.Icon = kind.Svg
