-- Tokens: JWT (RFC 7519) in the compact form of JWS (RFC 7515), signed by HS256 (RFC 7518) alone.
use Rattle.std.specs.Prelude.{◌≡◌, IsTrue, ℕ, Bool, not, ◌||◌, nat_le, nat_lt, List, ◌++◌, length, codes, bytes_eq, if◌then◌else◌, Option, None, Some, option_and_then, string_bytes}
use Rattle.std.specs.List.{list_any}
use Rattle.std.specs.declared.result.Result.{Result}
use Rattle.std.specs.declared.result.Result.TheVariants.{Ok, Err}
use Rattle.app_tokens.specs.declared.rights.Right.{Right}
use Rattle.app_tokens.specs.declared.token.Grant as declared
use Rattle.app_tokens.specs.declared.token.TokenError.{TokenError}
use Rattle.app_tokens.specs.declared.token.TokenError.TheVariants.{TooLong, NotThreeParts, NotSigned, OtherHeader, NoClaims, Expired, OtherDocument}
use Rattle.app_tokens.specs.Claims.{ClaimsValue, claims_in, is_hs256, json_in}
use Rattle.app_tokens.specs.Hmac.{signature}
use Rattle.app_tokens.specs.Parts.{PartsValue, parts_of}

-- the most bytes of a token
abbrev pub most_token_bytes : ℕ
most_token_bytes = 8192

-- what is granted: to whom, what may be done, and until which second
pub record GrantValue : Type 0 where
  pub subject : List ℕ
  pub right : Right
  pub until : ℕ

-- what contracts see of a grant
abbrev pub seen_grant : declared.Grant → GrantValue
seen_grant grant = record { subject = string_bytes grant.subject; right = grant.right; until = grant.until }

-- what a token signs: its header, a dot and its payload
abbrev pub signed_text : PartsValue → List ℕ
signed_text parts = parts.header ++ (codes "." ++ parts.payload)

-- a key has signed the token
abbrev pub signs : PartsValue → List ℕ → Bool
signs parts key = bytes_eq (signature key (signed_text parts)) parts.code

-- one of the keys has signed it
abbrev pub is_signed : List (List ℕ) → PartsValue → Bool
is_signed keys parts = list_any (signs parts) keys

-- claims are for a document if they name it, or `*`
abbrev pub covers : ClaimsValue → List ℕ → Bool
covers claims document = bytes_eq claims.document (codes "*") || bytes_eq claims.document document

-- the grant of claims
abbrev pub grant_of : ClaimsValue → GrantValue
grant_of claims = record { subject = claims.subject; right = claims.right; until = claims.until }

-- what claims grant on a document at a second
abbrev pub by_claims : ClaimsValue → List ℕ → ℕ → Result GrantValue TokenError
by_claims claims document now =
    if nat_le claims.until now then Err Expired
    else if not (covers claims document) then Err OtherDocument
    else Ok (grant_of claims)

-- the same, if there are claims
abbrev pub by_payload : Option ClaimsValue → List ℕ → ℕ → Result GrantValue TokenError
by_payload None document now = Err NoClaims
by_payload (Some claims) document now = by_claims claims document now

-- what parts that a key has signed grant, under a header of HS256
abbrev pub by_signed : PartsValue → List ℕ → ℕ → Result GrantValue TokenError
by_signed parts document now =
    if not (is_hs256 (json_in parts.header)) then Err OtherHeader
    else by_payload (option_and_then claims_in (json_in parts.payload)) document now

-- what three parts grant
abbrev pub by_parts : List (List ℕ) → Option PartsValue → List ℕ → ℕ → Result GrantValue TokenError
by_parts keys None document now = Err NotThreeParts
by_parts keys (Some parts) document now = if not (is_signed keys parts) then Err NotSigned else by_signed parts document now

-- what a token grants on a document at a second, or the first reason for which it grants nothing
abbrev pub verdict : List (List ℕ) → List ℕ → List ℕ → ℕ → Result GrantValue TokenError
verdict keys token document now =
    if nat_lt most_token_bytes (length token) then Err TooLong
    else by_parts keys (parts_of token) document now

-- a token has three parts, and one of the keys has signed it
abbrev pub IsOfKey : List (List ℕ) → List ℕ → Type 0
IsOfKey keys token = (parts : PartsValue) × (parts_of token ≡ Some parts) × IsTrue (is_signed keys parts)
