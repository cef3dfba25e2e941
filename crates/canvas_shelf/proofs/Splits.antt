-- Bytes are whole records and a torn rest, in one way.
use Rattle.std.proofs.Common.{◌≡◌, ◌<◌, ◌≤◌, ◌+◌, ◌-◌, ◌^◌, inl, inr, ℕ, zero, suc, List, [], ◌∷◌, ◌++◌, length, take, drop, get_or, refl, sym, ◌∙◌, ap, subst, arith, append_assoc, length-drop, take-append-drop}
use Rattle.std.specs.Prelude.{nat_le, if◌then◌else◌}
use Rattle.std.specs.Int.{w32, to_be_bytes, from_be_bytes}
use Rattle.std.proofs.lemmas.Bool.{le-leb, lt-leb, cases_lt}
use Rattle.std.proofs.lemmas.Nat.{be_bytes_4}
use Rattle.std.proofs.lemmas.List.{append-nil, drop-drop, length-take-le}
use Rattle.canvas_shelf.specs.Records.{IsShort, record_of, records, text_size, IsTorn, AreRecords, texts_within, texts, AreBytes, SplitsOnce}
use Rattle.canvas_shelf.proofs.Texts.{texts-records, texts-torn}

-- what is behind the first so many whole records
abbrev rest_within : ℕ → List ℕ → List ℕ
rest_within zero bytes = bytes
rest_within (suc count) bytes = if nat_le (4 + text_size bytes) (length bytes) then rest_within count (drop (4 + text_size bytes) bytes) else bytes

byte_at : (bytes : List ℕ) → AreBytes bytes → (i : ℕ) → get_or bytes i 0 < 256
byte_at [] are i = omega arith
byte_at (b ∷ bytes) are zero = are.0
byte_at (b ∷ bytes) are (suc i) = byte_at bytes are.1 i

bytes_in_front : (n : ℕ) (bytes : List ℕ) → AreBytes bytes → AreBytes (take n bytes)
bytes_in_front zero bytes are = tt
bytes_in_front (suc n) [] are = tt
bytes_in_front (suc n) (b ∷ bytes) are = (are.0, bytes_in_front n bytes are.1)

bytes_behind : (n : ℕ) (bytes : List ℕ) → AreBytes bytes → AreBytes (drop n bytes)
bytes_behind zero bytes are = are
bytes_behind (suc n) [] are = tt
bytes_behind (suc n) (b ∷ bytes) are = bytes_behind n bytes are.1

four_bytes : (bytes : List ℕ) → ((i : ℕ) → get_or bytes i 0 < 256) → from_be_bytes w32 bytes < 2 ^ 32
four_bytes bytes at = omega (arith, at 0, at 1, at 2, at 3)

size_fits : (bytes : List ℕ) → AreBytes bytes → text_size bytes < 2 ^ 32
unfolding text_size
size_fits bytes are = four_bytes (take 4 bytes) (byte_at (take 4 bytes) (bytes_in_front 4 bytes are))

-- the first whole record, and what is behind it
first_is : (bytes : List ℕ) → AreBytes bytes → 4 + text_size bytes ≤ length bytes
    → record_of (take (text_size bytes) (drop 4 bytes)) ++ drop (4 + text_size bytes) bytes ≡ bytes
unfolding record_of text_size
first_is bytes are long =
    let size = text_size bytes in
    let text = take size (drop 4 bytes) in
    let long_text : length text ≡ size = length-take-le size (drop 4 bytes) (omega (arith, length-drop 4 bytes, long)) in
    let head : to_be_bytes w32 (length text) ≡ take 4 bytes =
    be_bytes_4 (take 4 bytes) (length text) (length-take-le 4 bytes (omega arith)) (byte_at (take 4 bytes) (bytes_in_front 4 bytes are)) long_text in
    append_assoc (to_be_bytes w32 (length text)) text (drop (4 + size) bytes)
    ∙ ap (λ (l : List ℕ). l ++ (text ++ drop (4 + size) bytes)) head
    ∙ ap (λ (l : List ℕ). take 4 bytes ++ (text ++ l)) (sym (drop-drop size 4 bytes))
    ∙ ap (λ (l : List ℕ). take 4 bytes ++ l) (take-append-drop size (drop 4 bytes))
    ∙ take-append-drop 4 bytes

within : (count : ℕ) (bytes : List ℕ) → length bytes ≤ count → AreBytes bytes → AreRecords bytes (texts_within count bytes) (rest_within count bytes)
within zero bytes few are = record { whole = refl; short = tt; torn = omega arith }
within (suc count) bytes few are = elim (cases_lt (length bytes) (4 + text_size bytes)) [
  | inl torn ↦ rw (lt-leb (4 + text_size bytes) (length bytes) torn) (record { whole = refl; short = tt; torn = torn })
  | inr long ↦
      let behind = drop (4 + text_size bytes) bytes in
      let text = take (text_size bytes) (drop 4 bytes) in
      let more = within count behind (omega (arith, length-drop (4 + text_size bytes) bytes)) (bytes_behind (4 + text_size bytes) bytes are) in
      let fits : length text < 2 ^ 32 = omega (arith, size_fits bytes are, length-take-le (text_size bytes) (drop 4 bytes) (omega (arith, length-drop 4 bytes, long))) in
      rw (le-leb (4 + text_size bytes) (length bytes) long) (record {
        whole = sym (first_is bytes are long) ∙ ap (λ (l : List ℕ). record_of text ++ l) more.whole ∙ sym (append_assoc (record_of text) (records (texts_within count behind)) (rest_within count behind));
        short = (fits, more.short);
        torn = more.torn;
      })
]

splits : (bytes : List ℕ) → AreBytes bytes → AreRecords bytes (texts bytes) (rest_within (length bytes) bytes)
unfolding texts
splits bytes are = within (length bytes) bytes (omega arith) are

once : (bytes : List ℕ) (ts : List (List ℕ)) (rest : List ℕ) → AreRecords bytes ts rest → ts ≡ texts bytes
once bytes ts rest are =
    sym (append-nil ts) ∙ ap (λ (l : List (List ℕ)). ts ++ l) (sym (texts-torn rest are.torn)) ∙ sym (texts-records ts rest are.short) ∙ ap texts (sym are.whole)

pub splits_once : (bytes : List ℕ) → SplitsOnce bytes
splits_once bytes = record { rest = rest_within (length bytes) bytes; splits = splits bytes; once = once bytes }
