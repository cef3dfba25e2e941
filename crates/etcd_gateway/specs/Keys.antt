-- The keys of a document in the store.
use Rattle.std.specs.Prelude.{◌≡◌, ℕ, ◌^◌, ◌<◌, Bool, not, ◌&&◌, ◌||◌, ◌==◌, nat_eq, nat_lt, nat_le, List, ◌++◌, length, codes}
use Rattle.std.specs.List.{list_all, starts_with}
use Rattle.std.specs.Char.{is_ascii_alphanumeric}
use Rattle.canvas_decimals.specs.Decimals.{ten_digits}

-- a letter, a digit, `-`, `.` or `_`
abbrev pub is_document_name_byte : ℕ → Bool
is_document_name_byte b = is_ascii_alphanumeric b || (b == 45 || (b == 46 || b == 95))

-- a document's name: 1 to 64 such bytes, the first no `-`
abbrev pub is_document_name : List ℕ → Bool
is_document_name name = (nat_lt 0 (length name) && (nat_le (length name) 64 && not (starts_with nat_eq name (codes "-")))) && list_all is_document_name_byte name

-- what the keys of a document begin with
abbrev pub document_keys : List ℕ → List ℕ
document_keys name = codes "lugcurrant/" ++ name

-- the key of the document's owner
abbrev pub owner_key : List ℕ → List ℕ
owner_key name = document_keys name ++ codes "/owner"

-- the key of the document's identity
abbrev pub identity_key : List ℕ → List ℕ
identity_key name = document_keys name ++ codes "/identity"

-- the key of where the last chunk ends that was put
abbrev pub end_key : List ℕ → List ℕ
end_key name = document_keys name ++ codes "/end"

-- what the keys of all chunks begin with
abbrev pub segments_key : List ℕ → List ℕ
segments_key name = document_keys name ++ codes "/segment"

-- what the keys of a segment's chunks begin with
abbrev pub segment_key : List ℕ → ℕ → List ℕ
segment_key name segment = segments_key name ++ codes "/" ++ ten_digits segment

-- the key of a segment's chunk
abbrev pub chunk_key : List ℕ → ℕ → ℕ → List ℕ
chunk_key name segment chunk = segment_key name segment ++ codes "/" ++ ten_digits chunk

-- different chunks of a document have different keys
abbrev pub EachKeyIsOneChunk : Type 0
EachKeyIsOneChunk = (name : List ℕ) (segment chunk other_segment other_chunk : ℕ)
    → segment < 10 ^ 10 → chunk < 10 ^ 10 → other_segment < 10 ^ 10 → other_chunk < 10 ^ 10
    → chunk_key name segment chunk ≡ chunk_key name other_segment other_chunk → (segment ≡ other_segment) × (chunk ≡ other_chunk)

-- the first key of all that begin with these bytes and a slash
abbrev pub first_below : List ℕ → List ℕ
first_below key = key ++ codes "/"

-- the first key behind these bytes and all that begin with them and a slash: `0` is the byte behind a slash
abbrev pub first_behind : List ℕ → List ℕ
first_behind key = key ++ codes "0"
