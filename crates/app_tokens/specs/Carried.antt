-- Where a request carries tokens.
use Rattle.std.specs.Prelude.{ℕ, Bool, List, [], ◌∷◌, ◌++◌, length, take, drop, codes, nat_eq, if◌then◌else◌, Option, None, Some}
use Rattle.std.specs.List.{starts_with}
use Rattle.std.specs.Str.{str_eq_ignore_ascii_case}
use Rattle.app_tokens.specs.declared.carried.Carried as carried
use Rattle.app_tokens.specs.declared.carried.Carried.TheVariants as declared
use Rattle.app_tokens.specs.Parts.{cut, words_of}

-- no token, one, or several
pub data CarriedValue : Type 0 where
  nothing : CarriedValue
  one : List ℕ → CarriedValue
  several : CarriedValue

-- what contracts see of what is carried
abbrev pub seen_carried : carried.Carried → CarriedValue
seen_carried declared.Nothing = nothing
seen_carried (declared.One token) = one token.now
seen_carried declared.Several = several

-- how many tokens these are: none, one, or several
abbrev pub carried_of : List (List ℕ) → CarriedValue
carried_of [] = nothing
carried_of (token ∷ []) = one token
carried_of (token ∷ other ∷ more) = several

-- what is carried with a token more
abbrev pub add : CarriedValue → List ℕ → CarriedValue
add nothing token = one token
add (one other) token = several
add several token = several

-- what is carried with further tokens
abbrev pub carry : CarriedValue → List (List ℕ) → CarriedValue
carry c [] = c
carry c (token ∷ tokens) = carry (add c token) tokens

-- what comes after a prefix, if the word begins with it
abbrev pub after_prefix : List ℕ → List ℕ → List (List ℕ)
after_prefix prefix word = if starts_with nat_eq word prefix then drop (length prefix) word ∷ [] else []

-- the same of each word
abbrev pub all_after_prefix : List ℕ → List (List ℕ) → List (List ℕ)
all_after_prefix prefix [] = []
all_after_prefix prefix (word ∷ words) = after_prefix prefix word ++ all_after_prefix prefix words

-- the name of a field is this one, in any case
abbrev pub is_named : List ℕ → List ℕ → Bool
is_named name named = str_eq_ignore_ascii_case name named

-- the token of `Authorization: Bearer TOKEN` (RFC 6750), whose scheme may be in any case
abbrev pub tokens_in_authorization : List ℕ → List (List ℕ)
tokens_in_authorization value = if is_named (take 7 value) (codes "bearer ") then drop 7 value ∷ [] else []

-- the tokens of `Sec-WebSocket-Protocol: lugcurrant, token.TOKEN`, between spaces, tabs and commas
abbrev pub tokens_in_protocols : List ℕ → List (List ℕ)
tokens_in_protocols value = all_after_prefix (codes "token.") (words_of (codes " \t,") value)

-- the tokens in a field, by its name and value
abbrev pub tokens_in_field : List ℕ × List ℕ → List (List ℕ)
tokens_in_field field =
    if is_named field.0 (codes "authorization") then tokens_in_authorization field.1
    else if is_named field.0 (codes "sec-websocket-protocol") then tokens_in_protocols field.1
    else []

-- the tokens in the fields of a request's head
abbrev pub tokens_in_fields : List (List ℕ × List ℕ) → List (List ℕ)
tokens_in_fields [] = []
tokens_in_fields (field ∷ fields) = tokens_in_field field ++ tokens_in_fields fields

-- the tokens in the query behind a path: of each `token=TOKEN` between ampersands
abbrev pub tokens_in_query : Option (List ℕ × List ℕ) → List (List ℕ)
tokens_in_query None = []
tokens_in_query (Some parts) = all_after_prefix (codes "token=") (words_of (codes "&") parts.1)

-- the tokens in a target, whose query comes after its first question mark
abbrev pub tokens_in_target : List ℕ → List (List ℕ)
tokens_in_target target = tokens_in_query (cut (codes "?") target)

-- all tokens of a request with this target and these fields
abbrev pub tokens_of : List ℕ → List (List ℕ × List ℕ) → List (List ℕ)
tokens_of target fields = tokens_in_target target ++ tokens_in_fields fields
