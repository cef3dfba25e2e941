-- Words that are the same without case.
use Rattle.std.proofs.Common.{◌≡◌, ℕ, ◌≤◌, ◌<◌, Bool, true, false, ◌&&◌, List, [], ◌∷◌, ◌++◌, length, take, drop, refl, sym, ap, ◌∙◌, subst, arith, eqb}
use Rattle.std.specs.Char.{to_ascii_lowercase}
use Rattle.std.proofs.Math.Bool.{and_assoc, and-false}
use Rattle.std.proofs.lemmas.List.{length-take, take-append-drop}
use Rattle.net_heads.specs.Fields.{is_same_word}

-- two words are the same where their beginnings are, which are as long, and their ends
pub is_same_word-append : (a b c d : List ℕ) → length a ≡ length c → is_same_word (a ++ b) (c ++ d) ≡ (is_same_word a c && is_same_word b d)
is_same_word-append [] b [] d e = refl
is_same_word-append [] b (y ∷ c) d e = absurd (omega arith)
is_same_word-append (x ∷ a) b [] d e = absurd (omega arith)
is_same_word-append (x ∷ a) b (y ∷ c) d e =
    let rest : length a ≡ length c = omega arith in
    ap (λ (r : Bool). eqb (to_ascii_lowercase x) (to_ascii_lowercase y) && r) (is_same_word-append a b c d rest) ∙ sym (and_assoc (eqb (to_ascii_lowercase x) (to_ascii_lowercase y)) (is_same_word a c) (is_same_word b d))

-- a shorter word is another
pub is_same_word-shorter : (a b : List ℕ) → length a < length b → is_same_word a b ≡ false
is_same_word-shorter [] [] short = absurd (omega arith)
is_same_word-shorter [] (y ∷ b) short = refl
is_same_word-shorter (x ∷ a) [] short = absurd (omega arith)
is_same_word-shorter (x ∷ a) (y ∷ b) short =
    let rest : length a < length b = omega arith in
    ap (λ (r : Bool). eqb (to_ascii_lowercase x) (to_ascii_lowercase y) && r) (is_same_word-shorter a b rest) ∙ and-false (eqb (to_ascii_lowercase x) (to_ascii_lowercase y))

-- a word is a front and a back where its beginning is that front, and its rest the back
pub is_same_word-joined : (word front back : List ℕ) → length front ≤ length word
    → is_same_word word (front ++ back) ≡ (is_same_word (take (length front) word) front && is_same_word (drop (length front) word) back)
is_same_word-joined word front back long =
    let short : length (take (length front) word) ≡ length front = omega (arith, length-take (length front) word) in
    ap (λ (w : List ℕ). is_same_word w (front ++ back)) (sym (take-append-drop (length front) word))
    ∙ is_same_word-append (take (length front) word) (drop (length front) word) front back short

-- where its beginning is the front, a word is the front and the back where its rest is the back
pub joined_yes : (word front back begin end : List ℕ) (n : ℕ) (r : Bool) → n ≡ length front → length front ≤ length word
    → begin ≡ take n word → end ≡ drop n word → is_same_word begin front ≡ true → r ≡ is_same_word end back
    → r ≡ is_same_word word (front ++ back)
joined_yes word front back begin end n r n_is long begin_is end_is same r_is =
    let e = is_same_word-joined word front back long in
    let P : List ℕ → Type 0 = λ b. is_same_word b front ≡ true in
    let at_begin : is_same_word (take (length front) word) front ≡ true = subst P (begin_is ∙ ap (λ (k : ℕ). take k word) n_is) same in
    r_is ∙ ap (λ (w : List ℕ). is_same_word w back) (end_is ∙ ap (λ (k : ℕ). drop k word) n_is)
    ∙ sym (ap (λ (b : Bool). b && is_same_word (drop (length front) word) back) at_begin) ∙ sym e

-- where its beginning isn't the front, a word isn't the front and the back
pub joined_no : (word front back begin : List ℕ) (n : ℕ) (r : Bool) → n ≡ length front → length front ≤ length word
    → begin ≡ take n word → is_same_word begin front ≡ false → r ≡ false → r ≡ is_same_word word (front ++ back)
joined_no word front back begin n r n_is long begin_is other r_is =
    let e = is_same_word-joined word front back long in
    let P : List ℕ → Type 0 = λ b. is_same_word b front ≡ false in
    let at_begin : is_same_word (take (length front) word) front ≡ false = subst P (begin_is ∙ ap (λ (k : ℕ). take k word) n_is) other in
    r_is ∙ sym (ap (λ (b : Bool). b && is_same_word (drop (length front) word) back) at_begin) ∙ sym e
