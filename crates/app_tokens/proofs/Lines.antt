-- Lines that are keys, up to the first that is none.
use Rattle.std.proofs.Common.{◌≡◌, ℕ, ◌+◌, ◌≤◌, Bool, true, false, not, ◌&&◌, List, [], ◌∷◌, ◌++◌, length, refl, sym, ap, ◌∙◌, arith, append_assoc, cond, ltb, le-ltb, lt-ltb, Some, None}
use Rattle.std.specs.Prelude.{Err, Ok, codes, suc}
use Rattle.std.specs.List.{list_all, position, position_or_len}
use Rattle.std.proofs.lemmas.List.{length-append}
use Rattle.std.proofs.lemmas.List.Folds.{list_all-append}
use Rattle.app_tokens.specs.declared.keys.KeysError.TheVariants.{NotAKey, TooLong}
use Rattle.app_tokens.specs.Keys.{is_key, keys_in, keys_of_lines, lines_of, most_file_bytes}
use Rattle.app_tokens.specs.Parts.{cut, words_of}
use Rattle.app_tokens.proofs.Cuts.{words_last, words_more}

both_true : (a b : Bool) → (a && b) ≡ true → (a ≡ true) × (b ≡ true)
both_true true b e = (refl, e)
both_true false b e = cc

one_plus : (n : ℕ) → 1 + n ≡ suc n
one_plus n = omega arith

-- the first line that doesn't pass, behind others that do
first_at : (p : List ℕ → Bool) (good : List (List ℕ)) (line : List ℕ) (rest : List (List ℕ)) → list_all p good ≡ true → p line ≡ false
    → position_or_len (λ l. not (p l)) (good ++ line ∷ rest) ≡ length good
first_at p [] line rest all bad = ap (λ (b : Bool). cond (not (not b)) (1 + position_or_len (λ l. not (p l)) rest) 0) bad
first_at p (l ∷ good) line rest all bad =
    let two = both_true (p l) (list_all p good) all in
    ap (λ (b : Bool). cond (not (not b)) (1 + position_or_len (λ l. not (p l)) (good ++ line ∷ rest)) 0) two.0
    ∙ ap (λ (n : ℕ). 1 + n) (first_at p good line rest two.1 bad) ∙ one_plus (length good)

none_at : (p : List ℕ → Bool) (good : List (List ℕ)) → list_all p good ≡ true → position_or_len (λ l. not (p l)) good ≡ length good
none_at p [] all = refl
none_at p (l ∷ good) all =
    let two = both_true (p l) (list_all p good) all in
    ap (λ (b : Bool). cond (not (not b)) (1 + position_or_len (λ l. not (p l)) good) 0) two.0
    ∙ ap (λ (n : ℕ). 1 + n) (none_at p good two.1) ∙ one_plus (length good)

longer : (good : List (List ℕ)) (line : List ℕ) (rest : List (List ℕ)) → ltb (length good) (length (good ++ line ∷ rest)) ≡ true
longer good line rest = lt-ltb (length good) (length (good ++ line ∷ rest)) (omega (arith, length-append good (line ∷ rest)))

not_longer : (n : ℕ) → ltb n n ≡ false
not_longer n = le-ltb n n (omega arith)

-- the place of the first line that doesn't pass
pub first_bad : (p : List ℕ → Bool) (good : List (List ℕ)) (line : List ℕ) (rest : List (List ℕ)) → list_all p good ≡ true → p line ≡ false
    → position (λ l. not (p l)) (good ++ line ∷ rest) ≡ Some (length good)
first_bad p good line rest all bad =
    ap (λ (n : ℕ). cond (ltb n (length (good ++ line ∷ rest))) (Some n) None) (first_at p good line rest all bad)
    ∙ ap (λ (b : Bool). cond b (Some (length good)) None) (longer good line rest)

-- no line doesn't pass
pub none_bad : (p : List ℕ → Bool) (good : List (List ℕ)) → list_all p good ≡ true → position (λ l. not (p l)) good ≡ None
none_bad p good all =
    ap (λ (n : ℕ). cond (ltb n (length good)) (Some n) None) (none_at p good all)
    ∙ ap (λ (b : Bool). cond b (Some (length good)) None) (not_longer (length good))

not_long : (n : ℕ) → n ≤ most_file_bytes → ltb most_file_bytes n ≡ false
not_long n short = le-ltb most_file_bytes n short

-- the keys so far and one line more
pub one_line : (keys : List (List ℕ)) (rest line more : List ℕ) (lines : List (List ℕ)) → Some (line, more) ≡ cut (codes "\n") rest
    → keys ++ words_of (codes "\n") rest ≡ lines → (keys ++ line ∷ []) ++ words_of (codes "\n") more ≡ lines
one_line keys rest line more lines cuts e =
    append_assoc keys (line ∷ []) (words_of (codes "\n") more)
    ∙ ap (λ (ws : List (List ℕ)). keys ++ ws) (sym (words_more (codes "\n") rest line more cuts)) ∙ e

-- all keys and the last line
pub last_line : (keys : List (List ℕ)) (rest : List ℕ) (lines : List (List ℕ)) → None ≡ cut (codes "\n") rest
    → keys ++ words_of (codes "\n") rest ≡ lines → keys ++ rest ∷ [] ≡ lines
last_line keys rest lines whole e = ap (λ (ws : List (List ℕ)). keys ++ ws) (sym (words_last (codes "\n") rest whole)) ∙ e

-- the lines that end with one that is no key
pub bad_line : (text : List ℕ) (keys : List (List ℕ)) (line : List ℕ) (words : List (List ℕ)) → length text ≤ most_file_bytes
    → keys ++ line ∷ words ≡ lines_of text → list_all is_key keys ≡ true → is_key line ≡ false → keys_in text ≡ Err (NotAKey (length keys + 1))
bad_line text keys line words short lines all bad =
    ap (λ (b : Bool). cond b (Err TooLong) (keys_of_lines (lines_of text) (position (λ l. not (is_key l)) (lines_of text)))) (not_long (length text) short)
    ∙ ap (λ (ls : List (List ℕ)). keys_of_lines ls (position (λ l. not (is_key l)) ls)) (sym lines)
    ∙ ap (keys_of_lines (keys ++ line ∷ words)) (first_bad is_key keys line words all bad)

-- lines that are keys
pub good_lines : (text : List ℕ) (keys : List (List ℕ)) → length text ≤ most_file_bytes
    → keys ≡ lines_of text → list_all is_key keys ≡ true → keys_in text ≡ Ok keys
good_lines text keys short lines all =
    ap (λ (b : Bool). cond b (Err TooLong) (keys_of_lines (lines_of text) (position (λ l. not (is_key l)) (lines_of text)))) (not_long (length text) short)
    ∙ ap (λ (ls : List (List ℕ)). keys_of_lines ls (position (λ l. not (is_key l)) ls)) (sym lines)
    ∙ ap (keys_of_lines keys) (none_bad is_key keys all)

-- one key more
pub all_more : (keys : List (List ℕ)) (line : List ℕ) → list_all is_key keys ≡ true → is_key line ≡ true → list_all is_key (keys ++ line ∷ []) ≡ true
all_more keys line all good =
    list_all-append is_key keys (line ∷ [])
    ∙ ap (λ (b : Bool). b && (is_key line && true)) all ∙ ap (λ (b : Bool). true && (b && true)) good

-- a line before the last that is no key
pub bad_before : (text : List ℕ) (keys : List (List ℕ)) (rest line more : List ℕ) → length text ≤ most_file_bytes → Some (line, more) ≡ cut (codes "\n") rest
    → keys ++ words_of (codes "\n") rest ≡ lines_of text → list_all is_key keys ≡ true → is_key line ≡ false → keys_in text ≡ Err (NotAKey (length keys + 1))
bad_before text keys rest line more short cuts lines all bad =
    bad_line text keys line (words_of (codes "\n") more) short
    (ap (λ (ws : List (List ℕ)). keys ++ ws) (sym (words_more (codes "\n") rest line more cuts)) ∙ lines) all bad

-- a last line that is no key
pub bad_last : (text : List ℕ) (keys : List (List ℕ)) (rest : List ℕ) → length text ≤ most_file_bytes → None ≡ cut (codes "\n") rest
    → keys ++ words_of (codes "\n") rest ≡ lines_of text → list_all is_key keys ≡ true → is_key rest ≡ false → keys_in text ≡ Err (NotAKey (length keys + 1))
bad_last text keys rest short whole lines all bad = bad_line text keys rest [] short (last_line keys rest (lines_of text) whole lines) all bad

-- a last line that is a key
pub good_last : (text : List ℕ) (keys after : List (List ℕ)) (rest : List ℕ) → length text ≤ most_file_bytes → None ≡ cut (codes "\n") rest
    → keys ++ words_of (codes "\n") rest ≡ lines_of text → list_all is_key keys ≡ true → is_key rest ≡ true → after ≡ keys ++ rest ∷ [] → keys_in text ≡ Ok after
good_last text keys after rest short whole lines all good is =
    good_lines text (keys ++ rest ∷ []) short (last_line keys rest (lines_of text) whole lines) (all_more keys rest all good) ∙ ap Ok (sym is)
