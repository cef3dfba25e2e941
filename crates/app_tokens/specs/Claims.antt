-- What the parts of a token say.
use Rattle.std.specs.Prelude.{ℕ, Bool, true, false, ◌&&◌, nat_le, nat_lt, List, length, codes, bytes_eq, if◌then◌else◌, Option, None, Some, option_and_then, option_map}
use Rattle.std.specs.List.{list_all}
use Rattle.std.specs.Result.{result_ok}
use Rattle.std.specs.Str.{is_utf8}
use Rattle.base64.specs.Engines.{url_safe_no_pad}
use Rattle.base64.specs.GeneralPurpose.{decode_of}
use Rattle.serde_json.specs.Data.{Data}
use Rattle.serde_json.specs.Find.{as_number, as_str, as_u64, get}
use Rattle.serde_json.specs.Read.{read as read_text}
use Rattle.app_tokens.specs.declared.claims.Claims as declared
use Rattle.app_tokens.specs.declared.rights.Right.{Right}
use Rattle.app_tokens.specs.declared.rights.Right.TheVariants.{Read, Edit, Admin}

-- the JSON that bytes are: UTF-8 of a text of JSON
abbrev pub json_of : List ℕ → Option Data
json_of bytes = if is_utf8 bytes then read_text bytes else None

-- the JSON of a part: base64url without padding, of JSON
abbrev pub json_in : List ℕ → Option Data
json_in part = option_and_then json_of (result_ok (decode_of url_safe_no_pad part))

-- the text under a name
abbrev pub text_at : List ℕ → Data → Option (List ℕ)
text_at name d = option_and_then as_str (get name d)

-- the whole number under a name
abbrev pub number_at : List ℕ → Data → Option ℕ
number_at name d = option_and_then as_u64 (option_and_then as_number (get name d))

-- the text is there, and is this one
abbrev pub is_text : List ℕ → Option (List ℕ) → Bool
is_text text None = false
is_text text (Some found) = bytes_eq found text

-- nothing is there
abbrev pub is_absent : {A : Type 0} → Option A → Bool
is_absent None = true
is_absent (Some a) = false

-- a header names the algorithm HS256 (RFC 7518), and demands no extension (RFC 7515)
abbrev pub names_hs256 : Data → Bool
names_hs256 header = is_text (codes "HS256") (text_at (codes "alg") header) && is_absent (get (codes "crit") header)

-- the same of a header as a token has it
abbrev pub is_hs256 : Option Data → Bool
is_hs256 None = false
is_hs256 (Some header) = names_hs256 header

-- the right of a name
abbrev pub right_named : List ℕ → Option Right
right_named name =
    if bytes_eq name (codes "read") then Some Read
    else if bytes_eq name (codes "edit") then Some Edit
    else if bytes_eq name (codes "admin") then Some Admin
    else None

-- a printable byte that is no space
abbrev pub is_visible : ℕ → Bool
is_visible b = nat_le 33 b && nat_le b 126

-- a user's name: 1 to 128 printable bytes without spaces
abbrev pub is_subject : List ℕ → Bool
is_subject text = (nat_lt 0 (length text) && nat_le (length text) 128) && list_all is_visible text

-- the same, if it is one
abbrev pub subject_of : List ℕ → Option (List ℕ)
subject_of text = if is_subject text then Some text else None

-- what a payload claims: for which document, for whom, what may be done, and the second at which it ends
pub record ClaimsValue : Type 0 where
  pub document : List ℕ
  pub subject : List ℕ
  pub right : Right
  pub until : ℕ

-- what contracts see of claims
abbrev pub seen_claims : declared.Claims → ClaimsValue
seen_claims c = record { document = c.document.now; subject = c.subject.now; right = c.right; until = c.until }

-- four claims together
abbrev pub all_claims : List ℕ → List ℕ → Right → ℕ → ClaimsValue
all_claims document subject right until = record { document = document; subject = subject; right = right; until = until }

-- the claims of a payload: each is there, and is of its kind
abbrev pub claims_in : Data → Option ClaimsValue
claims_in d =
    option_and_then (λ document.
    option_and_then (λ subject.
    option_and_then (λ right.
    option_map (all_claims document subject right)
    (number_at (codes "exp") d))
    (option_and_then right_named (text_at (codes "right") d)))
    (option_and_then subject_of (text_at (codes "sub") d)))
    (text_at (codes "doc") d)
