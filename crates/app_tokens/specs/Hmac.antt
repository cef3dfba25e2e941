-- HMAC (RFC 2104) over SHA-256, whose blocks have 64 bytes, and its code as it is written in a token.
use Rattle.std.specs.Prelude.{ℕ, List, ◌++◌, map, bit_xor}
use Rattle.sha2.specs.Sha256.{sha256}
use Rattle.base64.specs.Engines.{url_safe_no_pad}
use Rattle.base64.specs.GeneralPurpose.{encode_of}

-- each byte mixed with this one
abbrev pub mixed : ℕ → List ℕ → List ℕ
mixed pad block = map (λ byte. bit_xor byte pad) block

-- the code of a text under a key of a block's length
abbrev pub hmac : List ℕ → List ℕ → List ℕ
hmac block text = sha256 (mixed 0x5c block ++ sha256 (mixed 0x36 block ++ text))

-- the same in base64url without padding
unfoldable pub signature : List ℕ → List ℕ → List ℕ
signature key text = encode_of url_safe_no_pad (hmac key text)
