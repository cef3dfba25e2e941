-- Where the scheme of an origin ends.
use Rattle.std.proofs.Common.{◌≡◌, ◌<◌, ◌+◌, ◌-◌, ℕ, suc, Bool, true, false, cond, not, ◌&&◌, List, [], ◌∷◌, ◌++◌, length, take, drop, codes, IsTrue, nat_eq, refl, sym, ap, ◌∙◌, subst, arith, ltb, Some, None}
use Rattle.std.specs.List.{list_all, position, position_or_len, starts_with}
use Rattle.std.proofs.lemmas.Bool.{and_from, and_parts}
use Rattle.std.proofs.lemmas.Bool.Decides.{Decides-eqb}
use Rattle.std.proofs.lemmas.List.{length-append, length-drop, length-take-le, take_all, take-append-drop}
use Rattle.std.proofs.lemmas.List.Quantifiers.{position-Some}
use Rattle.std.proofs.lemmas.Slice.Eq.{starts_is}
use Rattle.std.proofs.Math.Seq.{drop-append_seam}
use Rattle.net_http.proofs.Paths.{cut_at}
use Rattle.net_http.specs.Origins.{IsSchemeAndHost, is_host_byte, is_scheme_byte}

-- no byte of a scheme
abbrev is_other : ℕ → Bool
is_other b = not (is_scheme_byte b)

one_and : (n : ℕ) → 1 + n ≡ suc n
one_and n = grind arith

one_more : (b all : Bool) (m n : ℕ) → (all ≡ true → m ≡ n) → (b && all) ≡ true → cond (not (not b)) (1 + m) 0 ≡ suc n
one_more true all m n more e = one_and m ∙ ap suc (more e)
one_more false all m n more e = cc

-- the bytes of a scheme, and then a colon
length_of : (scheme rest : List ℕ) → list_all is_scheme_byte scheme ≡ true → position_or_len is_other (scheme ++ 58 ∷ rest) ≡ length scheme
length_of [] rest e = refl
length_of (b ∷ scheme) rest e = one_more (is_scheme_byte b) (list_all is_scheme_byte scheme) _ _ (length_of scheme rest) e

all_more : (x : ℕ) (xs : List ℕ) (n : ℕ) (b : Bool) → is_scheme_byte x ≡ b → list_all is_scheme_byte (take n xs) ≡ true
    → list_all is_scheme_byte (take (cond (not (not b)) (1 + n) 0) (x ∷ xs)) ≡ true
all_more x xs n true is all =
    subst (λ (k : ℕ). list_all is_scheme_byte (take k (x ∷ xs)) ≡ true) (sym (one_and n)) (and_from (is_scheme_byte x) (list_all is_scheme_byte (take n xs)) is all)
all_more x xs n false is all = refl

-- all that stands before the first other byte is of a scheme
all_before : (xs : List ℕ) → list_all is_scheme_byte (take (position_or_len is_other xs) xs) ≡ true
all_before [] = refl
all_before (x ∷ xs) = all_more x xs (position_or_len is_other xs) (is_scheme_byte x) refl (all_before xs)

some_where : (b : Bool) (m n : ℕ) → b ≡ true → m ≡ n → cond b (Some m) None ≡ Some n
some_where true m n b e = ap (λ (k : ℕ). Some k) e
some_where false m n b e = cc

-- a scheme ends at the colon behind it
ends_at : (scheme host : List ℕ) → list_all is_scheme_byte scheme ≡ true → position is_other (scheme ++ (codes "://" ++ host)) ≡ Some (length scheme)
ends_at scheme host all =
    let is : position_or_len is_other (scheme ++ (codes "://" ++ host)) ≡ length scheme = length_of scheme (47 ∷ 47 ∷ host) all in
    let long : length (scheme ++ (codes "://" ++ host)) ≡ length scheme + length (codes "://" ++ host) = length-append scheme (codes "://" ++ host) in
    let more : length (codes "://" ++ host) ≡ suc (suc (suc (length host))) = refl in
    let before : ltb (position_or_len is_other (scheme ++ (codes "://" ++ host))) (length (scheme ++ (codes "://" ++ host))) ≡ true = grind arith in
    some_where _ _ _ before is

ends_there : (text scheme host : List ℕ) (end : ℕ) → Some end ≡ position is_other text → text ≡ scheme ++ (codes "://" ++ host)
    → list_all is_scheme_byte scheme ≡ true → end ≡ length scheme
ends_there text scheme host end at is all =
    let there : Some end ≡ Some (length scheme) = at ∙ ap (λ (xs : List ℕ). position is_other xs) is ∙ ends_at scheme host all in
    cc

-- where nothing ends a scheme there is none
pub no_end : (text : List ℕ) → None ≡ position is_other text → IsSchemeAndHost text → ⊥
no_end text at (scheme, host, is, long, all, hosted) =
    let there : None ≡ Some (length scheme) = at ∙ ap (λ (xs : List ℕ). position is_other xs) is ∙ ends_at scheme host all in
    cc

-- nor where it would be empty
pub no_scheme : (text : List ℕ) (end : ℕ) → Some end ≡ position is_other text → (0 < end → ⊥) → IsSchemeAndHost text → ⊥
no_scheme text end at empty (scheme, host, is, long, all, hosted) =
    empty (subst (λ (n : ℕ). 0 < n) (sym (ends_there text scheme host end at is all)) long)

-- whether `://` and a host stand behind the scheme
abbrev is_behind : List ℕ → Bool
is_behind rest = starts_with nat_eq rest (codes "://") && list_all is_host_byte (drop 3 rest)

-- a slice up to the end is all that is left
all_left : (text : List ℕ) (end : ℕ) → take (length text - end) (drop end text) ≡ drop end text
all_left text end = take_all (length text - end) (drop end text) (grind (arith, length-drop))

-- so they do where there is a scheme and a host
pub host_behind : (text : List ℕ) (end : ℕ) (r : Bool) → Some end ≡ position is_other text → r ≡ is_behind (take (length text - end) (drop end text)) → IsSchemeAndHost text → IsTrue r
host_behind text end r at says (scheme, host, is, long, all, hosted) =
    let here : end ≡ length scheme = ends_there text scheme host end at is all in
    let rest : drop end text ≡ codes "://" ++ host = ap (λ (n : ℕ). drop n text) here ∙ ap (λ (xs : List ℕ). drop (length scheme) xs) is ∙ drop-append_seam scheme (codes "://" ++ host) in
    says ∙ ap is_behind (all_left text end ∙ rest) ∙ hosted

-- and where they do, there are
pub scheme_before : (text : List ℕ) (end : ℕ) (r : Bool) → Some end ≡ position is_other text → 0 < end → r ≡ is_behind (take (length text - end) (drop end text)) → IsTrue r → IsSchemeAndHost text
scheme_before text end r at some says is =
    let parts : (starts_with nat_eq (drop end text) (codes "://") ≡ true) × (list_all is_host_byte (drop 3 (drop end text)) ≡ true) = and_parts _ _ (sym (says ∙ ap is_behind (all_left text end)) ∙ is) in
    let starts : drop end text ≡ codes "://" ++ drop 3 (drop end text) = (starts_is Decides-eqb (drop end text) (codes "://") (starts_with nat_eq (drop end text) (codes "://")) refl).0 parts.0 in
    let within : end < length text = (position-Some is_other text end 0 (sym at)).0 in
    let long : length (take end text) ≡ end = length-take-le end text (grind arith) in
    let all : list_all is_scheme_byte (take end text) ≡ true = subst (λ (xs : List ℕ). list_all is_scheme_byte xs ≡ true) (sym (cut_at is_other text end at)) (all_before text) in
    (take end text, drop 3 (drop end text), sym (take-append-drop end text) ∙ ap (λ (xs : List ℕ). take end text ++ xs) starts, subst (λ (n : ℕ). 0 < n) (sym long) some, all, parts.1)
