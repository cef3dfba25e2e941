-- Codes, and the texts that they are of.
use Rattle.std.proofs.Common.{◌≡◌, ◌↔◌, ℕ, ◌+◌, ◌<◌, ◌≤◌, Bool, true, false, ◌||◌, IsTrue, List, [], ◌∷◌, ◌++◌, length, take, drop, get_or, append_assoc, append-nil, refl, sym, ap, ◌∙◌, arith}
use Rattle.std.specs.Prelude.{bit_or, bit_xor, bytes_eq}
use Rattle.std.proofs.lemmas.List.{drop_all, same_from_push, take_more}
use Rattle.std.proofs.lemmas.List.Folds.{list_any_more}
use Rattle.sha2.specs.Sha256.{sha256}
use Rattle.base64.specs.Engines.{url_safe_no_pad}
use Rattle.base64.specs.GeneralPurpose.{encode_of, encoded_size_of}
use Rattle.app_tokens.specs.Hmac.{hmac, mixed, signature}
use Rattle.app_tokens.specs.Parts.{PartsValue}
use Rattle.app_tokens.specs.Tokens.{is_signed, signed_text, signs}
use lib.Bits.{and_le_l, and_le_r, or_add_and, xor_assoc, xor_self, xor_zero_l, xor_zero_r}
use lib.Pointwise.{bytes_decides}

-- nothing is in either if nothing is in both together
none_of_two : (a b : ℕ) → bit_or a b ≡ 0 → (a ≡ 0) × (b ≡ 0)
none_of_two a b e = omega (arith, or_add_and a b, and_le_l a b, and_le_r a b)

-- two numbers whose mix is nothing are the same
same_of_mix : (a b : ℕ) → bit_xor a b ≡ 0 → a ≡ b
same_of_mix a b e = sym (xor_zero_r a) ∙ ap (bit_xor a) (sym (xor_self b)) ∙ sym (xor_assoc a b b) ∙ ap (λ z. bit_xor z b) e ∙ xor_zero_l b

-- one byte more is the same if nothing differs with it
pub one_more : (d : ℕ) (xs ys : List ℕ) (i : ℕ) → i < length xs → i < length ys → (d ≡ 0) ↔ (take i xs ≡ take i ys)
    → (bit_or d (bit_xor (get_or xs i 0) (get_or ys i 0)) ≡ 0) ↔ (take (i + 1) xs ≡ take (i + 1) ys)
one_more d xs ys i lx ly before = (
  λ h. let two = none_of_two d _ h in
      take_more xs i 0 lx ∙ ap (λ (z : List ℕ). z ++ get_or xs i 0 ∷ []) (before.0 two.0)
      ∙ ap (λ (v : ℕ). take i ys ++ v ∷ []) (same_of_mix _ _ two.1) ∙ sym (take_more ys i 0 ly),
  λ e. let s = same_from_push _ _ _ _ (sym (take_more xs i 0 lx) ∙ e ∙ take_more ys i 0 ly) in
      let m = ap (bit_xor (get_or xs i 0)) (sym s.1) ∙ xor_self (get_or xs i 0) in
      (λ j. bit_or (before.1 s.0 j) (m j)),
)

-- a key and three pieces, one after the other
pub inner_is : (out k key header dot payload : List ℕ) → k ≡ mixed 0x36 key → out ≡ sha256 (k ++ header ++ dot ++ payload)
    → out ≡ sha256 (mixed 0x36 key ++ (header ++ (dot ++ payload)))
inner_is out k key header dot payload is e =
    e ∙ ap (λ (front : List ℕ). sha256 (front ++ header ++ dot ++ payload)) is
    ∙ ap sha256 (append_assoc (mixed 0x36 key ++ header) dot payload ∙ append_assoc (mixed 0x36 key) header (dot ++ payload))

-- a code of 32 bytes fills 43 in base64url
pub signature_is : (out code zeros key text : List ℕ) → length code ≡ 32 → length zeros ≡ 43 → code ≡ hmac key text
    → out ≡ encode_of url_safe_no_pad code ++ drop (encoded_size_of url_safe_no_pad (length code)) zeros → out ≡ signature key text
unfolding signature
signature_is out code zeros key text short long is e =
    let size : encoded_size_of url_safe_no_pad (length code) ≡ 43 = ap (encoded_size_of url_safe_no_pad) short in
    let all : length zeros ≤ encoded_size_of url_safe_no_pad (length code) = omega (arith, long, size) in
    e ∙ ap (λ (d : List ℕ). encode_of url_safe_no_pad code ++ d) (drop_all (encoded_size_of url_safe_no_pad (length code)) zeros all)
    ∙ append-nil (encode_of url_safe_no_pad code) ∙ ap (encode_of url_safe_no_pad) is

same_bool : (r b : Bool) → (r ≡ true → b ≡ true) → (b ≡ true → r ≡ true) → r ≡ b
same_bool true b to from = sym (to refl)
same_bool false true to from = from refl
same_bool false false to from = refl

-- a test of whether two texts are the same
same_test : (r : Bool) (a b : List ℕ) → IsTrue r ↔ (a ≡ b) → r ≡ bytes_eq a b
same_test r a b h = same_bool r (bytes_eq a b) (λ t. (bytes_decides a b).1 (h.0 t)) (λ t. h.1 ((bytes_decides a b).0 t))

-- whether one key more has signed it
pub one_key : (parts : PartsValue) (keys : List (List ℕ)) (i : ℕ) (key code : List ℕ) (so_far r : Bool) → i < length keys
    → key ≡ get_or keys i key → code ≡ signature key (signed_text parts) → so_far ≡ is_signed (take i keys) parts
    → IsTrue r ↔ (code ≡ parts.code) → (so_far || r) ≡ is_signed (take (i + 1) keys) parts
one_key parts keys i key code so_far r below at is before test =
    let signed : r ≡ signs parts (get_or keys i key) =
    same_test r code parts.code test ∙ ap (λ (c : List ℕ). bytes_eq c parts.code) is ∙ ap (signs parts) at in
    ap (λ (b : Bool). b || r) before ∙ ap (λ (b : Bool). is_signed (take i keys) parts || b) signed
    ∙ sym (list_any_more (signs parts) keys i key below)
