-- InputSpells that are read one by one.
use Rattle.std.proofs.Common.{◌≡◌, inl, inr, Bool, true, false, not, cond, ℕ, zero, suc, ◌+◌, ◌-◌, ◌<◌, ◌≤◌, List, [], ◌∷◌, ◌++◌, length, take, drop, refl, sym, ap, subst, ◌∙◌, arith, add-one}
use Rattle.std.specs.Prelude.{codes}
use Rattle.std.proofs.lemmas.List.{append-nil, take-append-drop}
use Rattle.std.proofs.lemmas.List.Elements.{filter-append}
use Rattle.std.proofs.lemmas.Bool.{cases_lt, cases_eq}
use Rattle.canvas_lines.specs.Lines.{lines_of, is_passed, meaningful}
use Rattle.canvas_lines.specs.Spelling.{Requested, SpellsRequest, SpellEach, SpellLog, LinesSpell, InputSpells, IsBadLine}
use Rattle.canvas_lines.specs.Reading.{IsRead, IsUnread, NoneIsBad, OneIsBad}

pub meaningful_append : (xs ys : List (List ℕ)) → meaningful (xs ++ ys) ≡ meaningful xs ++ meaningful ys
meaningful_append xs ys = filter-append (λ line. not (is_passed line)) xs ys

pub meaningful_passed : (xs : List (List ℕ)) (line : List ℕ) → is_passed line ≡ true → meaningful (xs ++ line ∷ []) ≡ meaningful xs
meaningful_passed xs line passed = meaningful_append xs (line ∷ []) ∙ ap (λ b. meaningful xs ++ cond (not b) (line ∷ []) []) passed ∙ append-nil (meaningful xs)

pub meaningful_more : (xs : List (List ℕ)) (line : List ℕ) → is_passed line ≡ false → meaningful (xs ++ line ∷ []) ≡ meaningful xs ++ line ∷ []
meaningful_more xs line counts = meaningful_append xs (line ∷ []) ∙ ap (λ b. meaningful xs ++ cond (not b) (line ∷ []) []) counts

-- these meaningful lines stand for these requests, and whether there are any
abbrev pub SoFar : Bool → List (List ℕ) → List Requested → Type 0
SoFar false ts requested = (ts ≡ []) × (requested ≡ [])
SoFar true ts requested = (lines : List (List ℕ)) × (ts ≡ codes "log" ∷ lines) × SpellEach lines requested

pub all_spelled : (started : Bool) (ts : List (List ℕ)) (requested : List Requested) → SoFar started ts requested → SpellLog ts requested
all_spelled false ts requested h = subst (λ ts. SpellLog ts requested) (sym h.0) h.1
all_spelled true ts requested h = subst (λ ts. SpellLog ts requested) (sym h.1) (refl, h.2)

spelled_more : (lines : List (List ℕ)) (requested : List Requested) (line : List ℕ) (a : Requested) → SpellEach lines requested → SpellsRequest line a → SpellEach (lines ++ line ∷ []) (requested ++ a ∷ [])
spelled_more [] [] line a each spelled = (spelled, tt)
spelled_more [] (b ∷ requested) line a each spelled = absurd each
spelled_more (l ∷ lines) [] line a each spelled = absurd each
spelled_more (l ∷ lines) (b ∷ requested) line a each spelled = (each.0, spelled_more lines requested line a each.1 spelled)

pub read_more : (started : Bool) (ts : List (List ℕ)) (before after : List Requested) (line : List ℕ) → SoFar started ts before → IsRead started line before after → SoFar true (ts ++ line ∷ []) after
read_more false ts before after line h read =
    ([], ap (λ ts. ts ++ line ∷ []) h.0 ∙ ap (λ l. l ∷ []) read.0, subst (SpellEach []) (sym (read.1 ∙ h.1)) tt)
read_more true ts before after line h read =
    (h.0 ++ line ∷ [], ap (λ ts. ts ++ line ∷ []) h.1, subst (SpellEach (h.0 ++ line ∷ [])) (sym read.2) (spelled_more h.0 before line read.0 h.2 read.1))

last_spelled : (lines : List (List ℕ)) (line : List ℕ) (requested : List Requested) → SpellEach (lines ++ line ∷ []) requested → (a : Requested) × SpellsRequest line a
last_spelled [] line [] each = absurd each
last_spelled [] line (a ∷ requested) each = (a, each.0)
last_spelled (l ∷ lines) line [] each = absurd each
last_spelled (l ∷ lines) line (a ∷ requested) each = last_spelled lines line requested each.1

pub unread_there : (started : Bool) (ts : List (List ℕ)) (before requested : List Requested) (line : List ℕ) → SoFar started ts before → IsUnread started line → SpellLog (ts ++ line ∷ []) requested → ⊥
unread_there false ts before requested line h unread all =
    let first = subst (λ ts. SpellLog (ts ++ line ∷ []) requested) h.0 all in unread first.0
unread_there true ts before requested line h unread all =
    let each = subst (λ ts. SpellLog (ts ++ line ∷ []) requested) h.1 all in
    let last = last_spelled h.0 line requested each.1 in
    unread last.0 last.1

each_before : (xs ys : List (List ℕ)) (requested : List Requested) → SpellEach (xs ++ ys) requested → (a : List Requested) × SpellEach xs a
each_before [] ys requested each = ([], tt)
each_before (x ∷ xs) ys [] each = absurd each
each_before (x ∷ xs) ys (a ∷ requested) each = let b = each_before xs ys requested each.1 in (a ∷ b.0, (each.0, b.1))

all_before : (xs ys : List (List ℕ)) (requested : List Requested) → SpellLog (xs ++ ys) requested → (a : List Requested) × SpellLog xs a
all_before [] ys requested all = ([], refl)
all_before (x ∷ xs) ys requested all = let b = each_before xs ys requested all.1 in (b.0, (all.0, b.1))

spelled_by_first : (xs ys : List (List ℕ)) (requested : List Requested) → LinesSpell (xs ++ ys) requested → (a : List Requested) × LinesSpell xs a
spelled_by_first xs ys requested spelled = all_before (meaningful xs) (meaningful ys) requested (subst (λ ts. SpellLog ts requested) (meaningful_append xs ys) spelled)

-- what is meaningful by lines is meaningful by the first of them
spelled_first : (ls : List (List ℕ)) (n : ℕ) (requested : List Requested) → LinesSpell ls requested → (a : List Requested) × LinesSpell (take n ls) a
spelled_first ls n requested spelled = spelled_by_first (take n ls) (drop n ls) requested (subst (λ ls. LinesSpell ls requested) (sym (take-append-drop n ls)) spelled)

pub fewer : (n m : ℕ) (ls : List (List ℕ)) → n ≤ m → take n (take m ls) ≡ take n ls
fewer zero m ls le = refl
fewer (suc n) zero ls le = absurd (omega arith)
fewer (suc n) (suc m) [] le = refl
fewer (suc n) (suc m) (l ∷ ls) le = ap (λ r. l ∷ r) (fewer n m ls (omega arith))

pub none_is_bad : NoneIsBad
none_is_bad input requested n lines bad = let first = spelled_first (lines_of input) n requested lines in bad.bad first.0 first.1

not_before : (input : List ℕ) (m n : ℕ) → IsBadLine input m → IsBadLine input n → m < n → ⊥
not_before input m n first second lt =
    let spelled_before = second.before in
    let early = spelled_first (take (n - 1) (lines_of input)) m spelled_before.0 spelled_before.1 in
    first.bad early.0 (subst (λ ls. LinesSpell ls early.0) (fewer m (n - 1) (lines_of input) (omega arith)) early.1)

pub one_is_bad : OneIsBad
one_is_bad input m n first second =
    elim (cases_lt m n) [
      | inl lt ↦ absurd (not_before input m n first second lt)
      | inr le ↦ elim (cases_eq m n) [ inl e ↦ e | inr ne ↦ absurd (not_before input n m second first (omega arith)) ]
    ]

-- one line on
module _ {A : Type 0} where
  pub next_within : (n : ℕ) (ls : List A) (x : A) (xs : List A) → drop n ls ≡ x ∷ xs → n < length ls
  next_within zero [] x xs e = absurd (let f : ⊥ = cc in f)
  next_within zero (l ∷ ls) x xs e = omega arith
  next_within (suc n) [] x xs e = absurd (let f : ⊥ = cc in f)
  next_within (suc n) (l ∷ ls) x xs e = let h = next_within n ls x xs e in omega arith

  taken_suc : (n : ℕ) (ls : List A) (x : A) (xs : List A) → drop n ls ≡ x ∷ xs → take (suc n) ls ≡ take n ls ++ x ∷ []
  taken_suc zero [] x xs e = absurd (let f : ⊥ = cc in f)
  taken_suc zero (l ∷ ls) x xs e = let h : l ≡ x = cc in ap (λ l. l ∷ []) h
  taken_suc (suc n) [] x xs e = absurd (let f : ⊥ = cc in f)
  taken_suc (suc n) (l ∷ ls) x xs e = ap (λ r. l ∷ r) (taken_suc n ls x xs e)

  left_suc : (n : ℕ) (ls : List A) (x : A) (xs : List A) → drop n ls ≡ x ∷ xs → drop (suc n) ls ≡ xs
  left_suc zero [] x xs e = absurd (let f : ⊥ = cc in f)
  left_suc zero (l ∷ ls) x xs e = cc
  left_suc (suc n) [] x xs e = absurd (let f : ⊥ = cc in f)
  left_suc (suc n) (l ∷ ls) x xs e = left_suc n ls x xs e

  pub next_taken : (n : ℕ) (ls : List A) (x : A) (xs : List A) → drop n ls ≡ x ∷ xs → take (n + 1) ls ≡ take n ls ++ x ∷ []
  next_taken n ls x xs e = ap (λ k. take k ls) (add-one n) ∙ taken_suc n ls x xs e

  pub next_left : (n : ℕ) (ls : List A) (x : A) (xs : List A) → drop n ls ≡ x ∷ xs → drop (n + 1) ls ≡ xs
  next_left n ls x xs e = ap (λ k. drop k ls) (add-one n) ∙ left_suc n ls x xs e

  pub all_taken : (n : ℕ) (ls : List A) → drop n ls ≡ [] → take n ls ≡ ls
  all_taken zero ls e = sym e
  all_taken (suc n) [] e = refl
  all_taken (suc n) (l ∷ ls) e = ap (λ r. l ∷ r) (all_taken n ls e)

-- what the loop over the lines knows one line on, at the end, and at a bad line
module _ (started : Bool) (input : List ℕ) (n : ℕ) (before : List Requested) (so_far : SoFar started (meaningful (take n (lines_of input))) before) where
  pub whole : (rest : List ℕ) → drop n (lines_of input) ≡ lines_of rest → lines_of rest ≡ [] → InputSpells input before
  whole rest left end = subst (λ ls. LinesSpell ls before) (all_taken n (lines_of input) (left ∙ end)) (all_spelled started _ before so_far)

  module _ (line : List ℕ) (more : List (List ℕ)) (left : drop n (lines_of input) ≡ line ∷ more) where
    pub passed_on : is_passed line ≡ true → SoFar started (meaningful (take (n + 1) (lines_of input))) before
    passed_on passed =
        subst (λ ts. SoFar started ts before) (sym (ap meaningful (next_taken n (lines_of input) line more left) ∙ meaningful_passed (take n (lines_of input)) line passed)) so_far

    module _ (is_meaningful : is_passed line ≡ false) where
      meaningful_on : meaningful (take (n + 1) (lines_of input)) ≡ meaningful (take n (lines_of input)) ++ line ∷ []
      meaningful_on = ap meaningful (next_taken n (lines_of input) line more left) ∙ meaningful_more (take n (lines_of input)) line is_meaningful

      pub read_on : (after : List Requested) → IsRead started line before after → SoFar true (meaningful (take (n + 1) (lines_of input))) after
      read_on after read = subst (λ ts. SoFar true ts after) (sym meaningful_on) (read_more started _ before after line so_far read)

      pub stopped : IsUnread started line → IsBadLine input (n + 1)
      stopped unread = record {
        some = omega arith;
        within = let h = next_within n (lines_of input) line more left in omega arith;
        before = (before, let back : n + 1 - 1 ≡ n = omega arith in subst (λ k. LinesSpell (take k (lines_of input)) before) (sym back) (all_spelled started _ before so_far));
        bad = λ requested spelled. unread_there started _ before requested line so_far unread (subst (λ ts. SpellLog ts requested) meaningful_on spelled);
      }
