-- What a handshake has to offer: RFC 6455, The WebSocket Protocol, section 4.2.1.
use Rattle.std.specs.Prelude.{ℕ, Bool, ◌&&◌, ◌||◌, not, ◌==◌, List, length, take, drop, codes, nat_le, if◌then◌else◌}
use Rattle.std.specs.List.{list_all, list_any, slice_split}
use Rattle.std.specs.Str.{bytes_eq}
use Rattle.net_heads.specs.Fields.{NamesAndValues, is_same_word, values_named}
use Rattle.net_http.specs.declared.asked.Endpoint.{Endpoint}
use Rattle.net_http.specs.declared.asked.Endpoint.TheVariants as asked
use Rattle.net_http.specs.declared.asked.HttpRefusal.TheVariants as refusal

-- there is one value, and it passes
abbrev pub is_one : (List ℕ → Bool) → List (List ℕ) → Bool
is_one test values = length values == 1 && list_all test values

-- a space or a comma
abbrev pub is_gap : ℕ → Bool
is_gap b = b == 32 || b == 44

-- one of the words is `upgrade`
abbrev pub has_upgrade : List ℕ → Bool
has_upgrade value = list_any (λ word. is_same_word word (codes "upgrade")) (slice_split is_gap value)

-- the value is `websocket`
abbrev pub is_websocket : List ℕ → Bool
is_websocket value = is_same_word value (codes "websocket")

-- a symbol of base64
abbrev pub is_symbol : ℕ → Bool
is_symbol b =
    (nat_le 65 b && nat_le b 90) || ((nat_le 97 b && nat_le b 122) || ((nat_le 48 b && nat_le b 57) || (b == 43 || b == 47)))

-- the end of 16 bytes in base64: a symbol of two bits, and two equals signs
abbrev pub is_key_end : List ℕ → Bool
is_key_end end = bytes_eq end (codes "A==") || bytes_eq end (codes "Q==") || bytes_eq end (codes "g==") || bytes_eq end (codes "w==")

-- 16 bytes in base64
abbrev pub is_key : List ℕ → Bool
is_key key = length key == 24 && (list_all is_symbol (take 21 key) && is_key_end (drop 21 key))

-- the version is 13
abbrev pub is_version : List ℕ → Bool
is_version value = bytes_eq value (codes "13")

-- by HTTP/1.1, one `Upgrade` is `websocket`, one `Connection` has the word `upgrade`, and one key is of 16 bytes
abbrev pub is_offer : ℕ → NamesAndValues → Bool
is_offer minor fields =
    minor == 1
    && (is_one is_websocket (values_named (codes "upgrade") fields)
    && (is_one has_upgrade (values_named (codes "connection") fields) && is_one is_key (values_named (codes "sec-websocket-key") fields)))

-- a handshake whose page may connect gets its connection where it names version 13 once and offers the rest
abbrev pub offered : ℕ → NamesAndValues → Endpoint
offered minor fields =
    if not (length (values_named (codes "sec-websocket-version") fields) == 1) then asked.Refused refusal.BadRequest
    else if not (list_all is_version (values_named (codes "sec-websocket-version") fields)) then asked.Refused refusal.OtherVersion
    else if not (is_offer minor fields) then asked.Refused refusal.BadRequest
    else asked.Connection
