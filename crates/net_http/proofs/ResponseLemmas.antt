-- The head of an answer is a head of HTTP's grammar.
use Rattle.std.proofs.Common.{◌≡◌, ℕ, ◌<◌, ◌^◌, true, List, [], ◌∷◌, ◌++◌, length, codes, decimal, refl, sym, ap, ◌∙◌, append_assoc, arith, IsTrue, Some, append-nil}
use Rattle.std.specs.List.{flat_map, list_all, All}
use Rattle.std.specs.Char.{is_ascii_digit}
use Rattle.std.proofs.lemmas.Bool.Decides.{nat_tests}
use Rattle.std.proofs.lemmas.List.Elements.{All-cons, All-nil, All-weaker, All-from_recursion, recursion_from_All}
use Rattle.std.proofs.lemmas.List.Sums.{AllPass-from_list_all}
use Rattle.httparse.specs.Ascii.{crlf_bytes, space}
use Rattle.httparse.specs.Grammar.{AllPass, IsField, ReadsResponse, is_token_byte, is_value_byte, print_blank, print_end, print_field, print_reason, print_response, print_version, crlf}
use Rattle.net_heads.specs.Written.{field, field_line}
use Rattle.net_heads.proofs.Written.{is_field, size_passes}
use Rattle.net_http.specs.declared.texts.ContentType.{ContentType}
use Rattle.net_http.specs.declared.texts.ContentType.TheVariants as kind
use Rattle.net_http.specs.declared.texts.Status.{Status}
use Rattle.net_http.specs.declared.texts.Status.TheVariants as status
use Rattle.net_http.specs.Answers.{answer_head_text, page_policy}
use Rattle.net_http.specs.Identities.{IsIdentity, is_hex_digit}
use Rattle.net_http.specs.Responses.{digits_of, fields_of_answer, own_fields, phrase_of, response_of}
use Rattle.net_http.specs.Sites.{SiteValue}
use Rattle.net_http.specs.Texts.{fields_of, status_text, type_of}

-- ---- the text

-- the first line
start_is : (s : Status) → codes "HTTP/1.1 " ++ status_text s ++ crlf_bytes
    ≡ print_blank [] ++ print_version 1 ++ space ∷ digits_of s ++ print_reason (Some (phrase_of s)) ++ print_end crlf
start_is status.Ok = refl
start_is status.BadRequest = refl
start_is status.Forbidden = refl
start_is status.NotFound = refl
start_is status.NotAllowed = refl
start_is status.Misdirected = refl
start_is status.UpgradeRequired = refl
start_is status.Unavailable = refl

-- the fields of the status
own_is : (s : Status) → fields_of s ≡ flat_map print_field (own_fields s)
own_is status.Ok = refl
own_is status.BadRequest = refl
own_is status.Forbidden = refl
own_is status.NotFound = refl
own_is status.NotAllowed = refl
own_is status.Misdirected = refl
own_is status.UpgradeRequired = refl
own_is status.Unavailable = refl

-- a first line, seven lines, more, and an end: in two parts
lines_regroup : (a l m c d f g p x e : List ℕ)
    → a ++ l ++ m ++ c ++ d ++ f ++ g ++ p ++ x ++ e ≡ a ++ ((l ++ (m ++ (c ++ (d ++ (f ++ (g ++ (p ++ x))))))) ++ e)
lines_regroup a l m c d f g p x e = simp append_assoc

-- the text of an answer's head is that of its tree
pub head_text_is : (site : SiteValue) (s : Status) (k : ContentType) (size : ℕ) → answer_head_text site s k size ≡ print_response (response_of site s k size)
unfolding print_response
head_text_is site s k size =
    lines_regroup (codes "HTTP/1.1 " ++ status_text s ++ crlf_bytes) (field_line (codes "Content-Type") (type_of k))
    (field_line (codes "Content-Length") (decimal size)) (field_line (codes "Connection") (codes "close"))
    (field_line (codes "Cache-Control") (codes "no-store")) (field_line (codes "X-Content-Type-Options") (codes "nosniff"))
    (field_line (codes "Content-Security-Policy") page_policy) (field_line (codes "Lugcurrant-Document") site.identity)
    (fields_of s) crlf_bytes
    ∙ ap (λ (a : List ℕ). a ++ ((field_line (codes "Content-Type") (type_of k) ++ (field_line (codes "Content-Length") (decimal size)
    ++ (field_line (codes "Connection") (codes "close") ++ (field_line (codes "Cache-Control") (codes "no-store")
    ++ (field_line (codes "X-Content-Type-Options") (codes "nosniff") ++ (field_line (codes "Content-Security-Policy") page_policy
    ++ (field_line (codes "Lugcurrant-Document") site.identity ++ fields_of s))))))) ++ crlf_bytes)) (start_is s)
    ∙ ap (λ (x : List ℕ). (print_blank [] ++ print_version 1 ++ space ∷ digits_of s ++ print_reason (Some (phrase_of s)) ++ print_end crlf)
    ++ ((field_line (codes "Content-Type") (type_of k) ++ (field_line (codes "Content-Length") (decimal size)
    ++ (field_line (codes "Connection") (codes "close") ++ (field_line (codes "Cache-Control") (codes "no-store")
    ++ (field_line (codes "X-Content-Type-Options") (codes "nosniff") ++ (field_line (codes "Content-Security-Policy") page_policy
    ++ (field_line (codes "Lugcurrant-Document") site.identity ++ x))))))) ++ crlf_bytes)) (own_is s)

-- ---- its parts

literal : (value : List ℕ) → list_all is_value_byte value ≡ true → AllPass is_value_byte value
literal value passes = AllPass-from_list_all is_value_byte value passes

type_passes : (k : ContentType) → AllPass is_value_byte (type_of k)
type_passes kind.Text = literal (type_of kind.Text) refl
type_passes kind.Metrics = literal (type_of kind.Metrics) refl
type_passes kind.Html = literal (type_of kind.Html) refl
type_passes kind.Script = literal (type_of kind.Script) refl
type_passes kind.Wasm = literal (type_of kind.Wasm) refl
type_passes kind.Style = literal (type_of kind.Style) refl
type_passes kind.Svg = literal (type_of kind.Svg) refl

hex_passes : (b : ℕ) → is_hex_digit b ≡ true → IsTrue (is_value_byte b)
hex_passes b hex = grind (arith, nat_tests)

identity_passes : (identity : List ℕ) → IsIdentity identity → AllPass is_value_byte identity
identity_passes identity is =
    All-weaker (λ b. is_hex_digit b ≡ true) (λ b. IsTrue (is_value_byte b)) hex_passes identity (AllPass-from_list_all is_hex_digit identity is.1)

own_fields_pass : (s : Status) → All IsField (own_fields s)
unfolding is_token_byte
own_fields_pass status.Ok = All-nil IsField
own_fields_pass status.BadRequest = All-nil IsField
own_fields_pass status.Forbidden = All-nil IsField
own_fields_pass status.NotFound = All-nil IsField
own_fields_pass status.NotAllowed =
    All-cons IsField (field (codes "Allow") (codes "GET, HEAD")) []
    (is_field (codes "Allow") (codes "GET, HEAD") (omega arith) refl (literal (codes "GET, HEAD") refl)) (All-nil IsField)
own_fields_pass status.Misdirected = All-nil IsField
own_fields_pass status.UpgradeRequired =
    All-cons IsField (field (codes "Upgrade") (codes "websocket")) (field (codes "Sec-WebSocket-Version") (codes "13") ∷ [])
    (is_field (codes "Upgrade") (codes "websocket") (omega arith) refl (literal (codes "websocket") refl))
    (All-cons IsField (field (codes "Sec-WebSocket-Version") (codes "13")) []
    (is_field (codes "Sec-WebSocket-Version") (codes "13") (omega arith) refl (literal (codes "13") refl)) (All-nil IsField))
own_fields_pass status.Unavailable =
    All-cons IsField (field (codes "Retry-After") (codes "5")) []
    (is_field (codes "Retry-After") (codes "5") (omega arith) refl (literal (codes "5") refl)) (All-nil IsField)

fields_pass : (site : SiteValue) (s : Status) (k : ContentType) (size : ℕ) → IsIdentity site.identity → size < 2 ^ 64
    → All IsField (fields_of_answer site s k size)
unfolding is_token_byte
fields_pass site s k size named small =
    All-from_recursion IsField (fields_of_answer site s k size) (
      is_field (codes "Content-Type") (type_of k) (omega arith) refl (type_passes k),
      (
        is_field (codes "Content-Length") (decimal size) (omega arith) refl (size_passes size small),
        (
          is_field (codes "Connection") (codes "close") (omega arith) refl (literal (codes "close") refl),
          (
            is_field (codes "Cache-Control") (codes "no-store") (omega arith) refl (literal (codes "no-store") refl),
            (
              is_field (codes "X-Content-Type-Options") (codes "nosniff") (omega arith) refl (literal (codes "nosniff") refl),
              (
                is_field (codes "Content-Security-Policy") page_policy (omega arith) refl (literal page_policy refl),
                (
                  is_field (codes "Lugcurrant-Document") site.identity (omega arith) refl (identity_passes site.identity named),
                  recursion_from_All IsField (own_fields s) (own_fields_pass s),
                ),
              ),
            ),
          ),
        ),
      ),
    )

digits_pass : (s : Status) → (length (digits_of s) ≡ 3) × AllPass is_ascii_digit (digits_of s)
digits_pass status.Ok = (refl, AllPass-from_list_all is_ascii_digit (codes "200") refl)
digits_pass status.BadRequest = (refl, AllPass-from_list_all is_ascii_digit (codes "400") refl)
digits_pass status.Forbidden = (refl, AllPass-from_list_all is_ascii_digit (codes "403") refl)
digits_pass status.NotFound = (refl, AllPass-from_list_all is_ascii_digit (codes "404") refl)
digits_pass status.NotAllowed = (refl, AllPass-from_list_all is_ascii_digit (codes "405") refl)
digits_pass status.Misdirected = (refl, AllPass-from_list_all is_ascii_digit (codes "421") refl)
digits_pass status.UpgradeRequired = (refl, AllPass-from_list_all is_ascii_digit (codes "426") refl)
digits_pass status.Unavailable = (refl, AllPass-from_list_all is_ascii_digit (codes "503") refl)

phrase_passes : (s : Status) → AllPass is_value_byte (phrase_of s)
phrase_passes status.Ok = literal (codes "OK") refl
phrase_passes status.BadRequest = literal (codes "Bad Request") refl
phrase_passes status.Forbidden = literal (codes "Forbidden") refl
phrase_passes status.NotFound = literal (codes "Not Found") refl
phrase_passes status.NotAllowed = literal (codes "Method Not Allowed") refl
phrase_passes status.Misdirected = literal (codes "Misdirected Request") refl
phrase_passes status.UpgradeRequired = literal (codes "Upgrade Required") refl
phrase_passes status.Unavailable = literal (codes "Service Unavailable") refl

-- the head of an answer is read as its tree, and nothing is left
pub head_text_reads : (site : SiteValue) (s : Status) (k : ContentType) (size : ℕ) → IsIdentity site.identity → size < 2 ^ 64
    → ReadsResponse (answer_head_text site s k size) (response_of site s k size) []
head_text_reads site s k size named small = (
  record {
    minor = omega arith;
    digits = digits_pass s;
    reason = phrase_passes s;
    fields = fields_pass site s k size named small;
  },
  head_text_is site s k size ∙ sym (append-nil (print_response (response_of site s k size))),
)
