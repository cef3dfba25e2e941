-- Texts that are cut at bytes.
use Rattle.std.proofs.Common.{◌≡◌, ℕ, ◌+◌, ◌-◌, ◌<◌, ◌≤◌, Bool, true, false, List, [], ◌∷◌, length, take, drop, refl, sym, ap, ◌∙◌, arith, cond, ltb, Option, Some, None}
use Rattle.std.specs.Prelude.{option_map}
use Rattle.std.specs.List.{after_first, position, position_or_len, slice_split}
use Rattle.std.proofs.lemmas.List.{take_rest}
use Rattle.std.proofs.lemmas.List.Splits.{slice_split_first, slice_split_none}
use Rattle.std.proofs.lemmas.List.Sums.{fails_before_first}
use Rattle.app_tokens.specs.Parts.{cut, is_one_of, words_of}

abbrev word_in : Option (List ℕ × List ℕ) → List ℕ
word_in None = []
word_in (Some parts) = parts.0

abbrev more_in : Option (List ℕ × List ℕ) → List ℕ
more_in None = []
more_in (Some parts) = parts.1

-- the two sides of a place
abbrev sides : List ℕ → ℕ → List ℕ × List ℕ
sides text at = (take at text, drop (at + 1) text)

words_if : (p : ℕ → Bool) (text word more : List ℕ) (b : Bool) → b ≡ ltb (position_or_len p text) (length text)
    → Some (word, more) ≡ option_map (sides text) (cond b (Some (position_or_len p text)) None) → slice_split p text ≡ word ∷ slice_split p more
words_if p text word more true within e =
    let below : position_or_len p text < length text = grind arith in
    slice_split_first p text 0 below
    ∙ ap (λ (w : List ℕ). w ∷ slice_split p (after_first p text)) (sym (ap word_in e))
    ∙ ap (λ (m : List ℕ). word ∷ slice_split p m) (sym (ap more_in e))
words_if p text word more false within e = cc

last_if : (p : ℕ → Bool) (text : List ℕ) (b : Bool) → b ≡ ltb (position_or_len p text) (length text)
    → None ≡ option_map (sides text) (cond b (Some (position_or_len p text)) None) → slice_split p text ≡ text ∷ []
last_if p text true within e = cc
last_if p text false within e =
    let long : length text ≤ position_or_len p text = grind arith in
    slice_split_none p text (λ k d l. fails_before_first p text k d (omega arith))

-- a text that is cut is the word before the cut, and the words after it
pub words_more : (gaps text word more : List ℕ) → Some (word, more) ≡ cut gaps text → words_of gaps text ≡ word ∷ words_of gaps more
words_more gaps text word more e = words_if (is_one_of gaps) text word more (ltb (position_or_len (is_one_of gaps) text) (length text)) refl e

-- a text that isn't cut is one word
pub words_last : (gaps text : List ℕ) → None ≡ cut gaps text → words_of gaps text ≡ text ∷ []
words_last gaps text e = last_if (is_one_of gaps) text (ltb (position_or_len (is_one_of gaps) text) (length text)) refl e

-- a text that is cut at the first such byte
pub cut_at : (gaps text : List ℕ) (at : ℕ) → Some at ≡ position (is_one_of gaps) text
    → Some (take at text, take (length text - (at + 1)) (drop (at + 1) text)) ≡ cut gaps text
cut_at gaps text at first =
    ap (λ (more : List ℕ). Some (take at text, more)) (take_rest text (at + 1)) ∙ ap (option_map (sides text)) first

-- a text without such a byte
pub cut_none : (gaps text : List ℕ) → None ≡ position (is_one_of gaps) text → None ≡ cut gaps text
cut_none gaps text none = ap (option_map (sides text)) none
