-- What a door answers.
use Rattle.std.specs.Prelude.{◌≡◌, ℕ, Bool, true, List, [], ◌∷◌, ◌++◌, MatchOption}
use Rattle.net_http.specs.declared.asked.Endpoint.{Endpoint}
use Rattle.net_http.specs.declared.asked.Endpoint.TheVariants as asked
use Rattle.net_http.specs.declared.texts.ContentType.TheVariants as kind
use Rattle.net_http.specs.declared.texts.Status.TheVariants as status
use Rattle.net_http.specs.Answers.{answer_text, sentence_text}
use Rattle.net_http.specs.Sites.{SiteValue}
use Rattle.net_http.specs.Texts.{content_type_of, status_of}
use Rattle.app_metrics.specs.declared.numbers.Numbers.{Numbers}
use Rattle.app_metrics.specs.Numbers.{health_line, metrics_text}
use Rattle.app_listener.specs.declared.answers.Reply.{Reply}
use Rattle.app_listener.specs.declared.page.Page.{Page}
use Rattle.app_listener.specs.Pages.{held}

-- its own bytes, and then those that it shares
abbrev pub reply_bytes : Reply → List ℕ
reply_bytes r = r.own.items ++ r.shared

-- a client for which no seat is free is told to come again
abbrev pub turned_away : SiteValue → List ℕ
turned_away site = sentence_text site status.Unavailable true

-- what is answered to what is asked for: how the server is, its numbers, which document it has, a file of the page if the page has it,
-- or why nothing is given; and to a client that no seat is free
abbrev pub IsAnswerToEndpoint : SiteValue → Page → Endpoint → Bool → List ℕ → Type 0
IsAnswerToEndpoint site page asked.Connection wants answer = answer ≡ turned_away site
IsAnswerToEndpoint site page (asked.File f) wants answer =
    MatchOption (held page f)
    (answer ≡ sentence_text site status.NotFound wants)
    (λ bytes. answer ≡ answer_text site status.Ok (content_type_of f) bytes wants)
IsAnswerToEndpoint site page asked.Health wants answer = (n : Numbers) × (answer ≡ answer_text site status.Ok kind.Text (health_line n) wants)
IsAnswerToEndpoint site page asked.Metrics wants answer = (n : Numbers) × (answer ≡ answer_text site status.Ok kind.Metrics (metrics_text n) wants)
IsAnswerToEndpoint site page asked.Document wants answer = answer ≡ answer_text site status.Ok kind.Text (site.identity ++ 10 ∷ []) wants
IsAnswerToEndpoint site page (asked.Refused r) wants answer = answer ≡ sentence_text site (status_of r) wants
