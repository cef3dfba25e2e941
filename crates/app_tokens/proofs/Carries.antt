-- Tokens that are carried one after the other.
use Rattle.std.proofs.Common.{◌≡◌, ℕ, ◌+◌, ◌<◌, ◌≤◌, List, [], ◌∷◌, ◌++◌, length, drop, get_or, map, refl, sym, ap, ◌∙◌, Some, None}
use Rattle.std.proofs.lemmas.List.{drop_all, drop_more}
use Rattle.app_tokens.specs.Carried.{CarriedValue, nothing, several, add, after_prefix, all_after_prefix, carried_of, carry, tokens_in_field, tokens_in_fields}
use Rattle.app_tokens.specs.Parts.{cut, words_of}
use Rattle.app_tokens.proofs.Cuts.{words_last, words_more}

pub carry-append : (c : CarriedValue) (xs ys : List (List ℕ)) → carry c (xs ++ ys) ≡ carry (carry c xs) ys
carry-append c [] ys = refl
carry-append c (x ∷ xs) ys = carry-append (add c x) xs ys

-- several stay several
several_stay : (tokens : List (List ℕ)) → carry several tokens ≡ several
several_stay [] = refl
several_stay (t ∷ tokens) = several_stay tokens

-- what is carried from nothing on
pub carry-nothing : (tokens : List (List ℕ)) → carry nothing tokens ≡ carried_of tokens
carry-nothing [] = refl
carry-nothing (t ∷ []) = refl
carry-nothing (t ∷ u ∷ tokens) = several_stay tokens

-- one word more
pub carry_word : (c : CarriedValue) (prefix gaps text word more : List ℕ) → Some (word, more) ≡ cut gaps text
    → carry (carry c (after_prefix prefix word)) (all_after_prefix prefix (words_of gaps more)) ≡ carry c (all_after_prefix prefix (words_of gaps text))
carry_word c prefix gaps text word more e =
    sym (carry-append c (after_prefix prefix word) (all_after_prefix prefix (words_of gaps more)))
    ∙ ap (λ (words : List (List ℕ)). carry c (all_after_prefix prefix words)) (sym (words_more gaps text word more e))

-- the last word
pub carry_last : (c : CarriedValue) (prefix gaps text : List ℕ) → None ≡ cut gaps text
    → carry c (after_prefix prefix text) ≡ carry c (all_after_prefix prefix (words_of gaps text))
carry_last c prefix gaps text e =
    sym (carry-append c (after_prefix prefix text) [])
    ∙ ap (λ (words : List (List ℕ)). carry c (all_after_prefix prefix words)) (sym (words_last gaps text e))

-- one field more
pub carry_field : {X : Type 0} (f : X → List ℕ × List ℕ) (c after : CarriedValue) (fields : List X) (i : ℕ) (d : X) → i < length fields
    → after ≡ carry c (tokens_in_field (f (get_or fields i d)))
    → carry after (tokens_in_fields (map f (drop (i + 1) fields))) ≡ carry c (tokens_in_fields (map f (drop i fields)))
carry_field {X} f c after fields i d below is =
    ap (λ (s : CarriedValue). carry s (tokens_in_fields (map f (drop (i + 1) fields)))) is
    ∙ sym (carry-append c (tokens_in_field (f (get_or fields i d))) (tokens_in_fields (map f (drop (i + 1) fields))))
    ∙ ap (λ (rest : List X). carry c (tokens_in_fields (map f rest))) (sym (drop_more fields i d below))

-- no field more
pub carry_all : {X : Type 0} (f : X → List ℕ × List ℕ) (c : CarriedValue) (fields : List X) (i : ℕ) → length fields ≤ i
    → carry c (tokens_in_fields (map f (drop i fields))) ≡ c
carry_all {X} f c fields i all = ap (λ (rest : List X). carry c (tokens_in_fields (map f rest))) (drop_all i fields all)
