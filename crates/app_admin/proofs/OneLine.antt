-- No text of JSON has a line feed.
use Rattle.std.proofs.Common.{◌≡◌, ◌==◌, ◌/◌, ◌%◌, nat_lt, inl, inr, ◌⊎◌, ℕ, zero, suc, Bool, true, false, List, [], ◌∷◌, ◌++◌, refl, arith}
use Rattle.std.specs.Prelude.{ℤ}
use Rattle.std.specs.List.{AllByRecursion}
use Rattle.std.specs.Fmt.{decimal, digits, digits_onto, digit_glyph, signed_decimal}
use Rattle.std.specs.Char.{digit_char}
use Rattle.std.proofs.lemmas.Bool.{cases_Bool}
use Rattle.std.proofs.lemmas.Bool.Decides.{nat_tests}
use Rattle.json.specs.Print.{escape_letter, escape_byte, escape, quoted}
use Rattle.serde_json.specs.Data.{Num, unsigned, negative, float, Data, null, boolean, number, string, array, object, Items, no_items, item, Members, no_members, member}
use Rattle.serde_json.specs.Written.{number_text, comma_if, compact_text, items_text, members_text}

-- no byte is a line feed
abbrev pub IsOneLine : List ℕ → Type 0
IsOneLine = AllByRecursion (λ b. (b == 10) ≡ false)

pub one-append : (a b : List ℕ) → IsOneLine a → IsOneLine b → IsOneLine (a ++ b)
one-append [] b of_a of_b = of_b
one-append (x ∷ a) b of_a of_b = (of_a.0, one-append a b of_a.1 of_b)

-- ---- numbers

glyph : (d : ℕ) → (digit_glyph false d == 10) ≡ false
glyph d = grind (arith, nat_tests)

onto_line : (k n : ℕ) (acc : List ℕ) → IsOneLine acc → IsOneLine (digits_onto k 10 false n acc)
onto_line zero n acc line = line
onto_line (suc k) n acc line =
    let more : IsOneLine (digit_glyph false (n % 10) ∷ acc) = (glyph (n % 10), line) in
    elim (cases_Bool (n / 10 == 0)) [
      | inl last ↦ rw last more
      | inr later ↦ rw later (onto_line k (n / 10) (digit_glyph false (n % 10) ∷ acc) more)
    ]

decimal_line : (n : ℕ) → IsOneLine (decimal n)
unfolding digits
decimal_line n = onto_line 64 n [] tt

signed_line : (z : ℤ) → IsOneLine (signed_decimal z)
signed_line (ℤ.pos n) = decimal_line n
signed_line (ℤ.negsuc n) = (refl, decimal_line (suc n))

number_line : (n : Num) → IsOneLine (number_text n)
number_line (unsigned n) = decimal_line n
number_line (negative z) = signed_line z
number_line (float x) = tt

-- ---- strings

-- a byte, by what it is
letter_line : (x : ℕ) → (escape_letter x == 10) ≡ false
letter_line x = grind (arith, nat_tests)

char_line : (d : ℕ) → (digit_char d == 10) ≡ false
char_line d = grind (arith, nat_tests)

byte_line : (x : ℕ) → IsOneLine (escape_byte x)
unfolding escape_byte
byte_line x = by (cases_Bool (nat_lt 0 (escape_letter x))) (cases_Bool (nat_lt x 32))
  where
    by : (nat_lt 0 (escape_letter x) ≡ true ⊎ nat_lt 0 (escape_letter x) ≡ false) → (nat_lt x 32 ≡ true ⊎ nat_lt x 32 ≡ false) → IsOneLine (escape_byte x)
    by (inl short) other = rw short (refl, (letter_line x, tt))
    by (inr long) (inl control) = rw (long, control) (refl, (refl, (refl, (refl, (char_line (x / 16), (char_line (x % 16), tt))))))
    by (inr long) (inr plain) = rw (long, plain) (grind (arith, nat_tests), tt)

escape_line : (s : List ℕ) → IsOneLine (escape s)
escape_line [] = tt
escape_line (x ∷ s) = one-append (escape_byte x) (escape s) (byte_line x) (escape_line s)

quoted_line : (s : List ℕ) → IsOneLine (quoted s)
quoted_line s = (refl, one-append (escape s) (34 ∷ []) (escape_line s) (refl, tt))

comma_line : (later : Bool) → IsOneLine (comma_if later)
comma_line true = (refl, tt)
comma_line false = tt

-- ---- all of it

mutual
  pub text_line : (d : Data) → IsOneLine (compact_text d)
  text_line null = (refl, (refl, (refl, (refl, tt))))
  text_line (boolean true) = (refl, (refl, (refl, (refl, tt))))
  text_line (boolean false) = (refl, (refl, (refl, (refl, (refl, tt)))))
  text_line (number n) = number_line n
  text_line (string s) = quoted_line s
  text_line (array ds) = (refl, items_line false ds)
  text_line (object ms) = (refl, members_line false ms)

  items_line : (later : Bool) (ds : Items) → IsOneLine (items_text later ds)
  items_line later no_items = (refl, tt)
  items_line later (item d ds) = one-append (comma_if later) _ (comma_line later) (one-append (compact_text d) (items_text true ds) (text_line d) (items_line true ds))

  members_line : (later : Bool) (ms : Members) → IsOneLine (members_text later ms)
  members_line later no_members = (refl, tt)
  members_line later (member k d ms) =
      one-append (comma_if later) _ (comma_line later)
      (one-append (quoted k) _ (quoted_line k) (refl, one-append (compact_text d) (members_text true ms) (text_line d) (members_line true ms)))
