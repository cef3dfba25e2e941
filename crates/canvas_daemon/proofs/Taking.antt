-- The lines that are taken from an input, one after another.
use Rattle.std.proofs.Common.{◌≡◌, ◌≢◌, ◌⊎◌, ℕ, ◌-◌, ◌<◌, ◌==◌, suc, Bool, true, false, List, [], ◌∷◌, ◌++◌, length, take, slice_get, if◌then◌else◌, All, Option, None, Some, IfSome, refl, sym, ap, subst, ◌∙◌, inl, inr, append_assoc, arith}
use Rattle.std.proofs.Math.Seq.{take-append_seam}
use Rattle.std.proofs.lemmas.Bool.Decides.{eqb_tells}
use Rattle.std.proofs.lemmas.List.{length-append}
use Rattle.std.proofs.lemmas.List.Elements.{All-cons, All-get_or, All-nil}
use Rattle.std.proofs.lemmas.Option.{get_or_from_slice_get, slice_get_within}
use Rattle.std.specs.Io.BufRead.{take_through, drop_through, DropsThrough}
use Rattle.std.specs.Io.KnownBytes.{IsAtEnd}
use Rattle.canvas_lines.specs.Lines.{lines_of, onto}
use Rattle.canvas_daemon.specs.Edited.{HasEnded, TakesLines}

-- the first line, without its line feed
abbrev first_line : List ℕ → List ℕ
first_line [] = []
first_line (x ∷ xs) = if x == 10 then [] else x ∷ first_line xs

-- the first line, and those of the rest
first_and_rest : (x : ℕ) (xs : List ℕ) → lines_of (x ∷ xs) ≡ first_line (x ∷ xs) ∷ lines_of (drop_through 10 (x ∷ xs))
first_and_rest x [] =
    elim (x == 10) as (λ b. (if b then [] ∷ [] else onto x []) ≡ (if b then [] else x ∷ []) ∷ lines_of (if b then [] else [])) [ true ↦ refl | false ↦ refl ]
first_and_rest x (y ∷ ys) =
    elim (x == 10) as (λ b. (if b then [] ∷ lines_of (y ∷ ys) else onto x (lines_of (y ∷ ys))) ≡ (if b then [] else x ∷ first_line (y ∷ ys)) ∷ lines_of (if b then y ∷ ys else drop_through 10 (y ∷ ys)))
    [ true ↦ refl | false ↦ ap (onto x) (first_and_rest y ys) ]

-- what is read up to a line feed is the first line, maybe with its feed
is_first : (xs : List ℕ) → (take_through 10 xs ≡ first_line xs ++ 10 ∷ []) ⊎ (take_through 10 xs ≡ first_line xs)
is_first [] = inr refl
is_first (x ∷ xs) =
    let P = λ (b : Bool). ((if b then x ∷ [] else x ∷ take_through 10 xs) ≡ (if b then [] else x ∷ first_line xs) ++ 10 ∷ []) ⊎ ((if b then x ∷ [] else x ∷ take_through 10 xs) ≡ (if b then [] else x ∷ first_line xs)) in
    let feed : x ≡ 10 → P true = λ is. inl (ap (λ (y : ℕ). y ∷ []) is) in
    let none : P false = elim (is_first xs) [ inl is ↦ inl (ap (λ (t : List ℕ). x ∷ t) is) | inr is ↦ inr (ap (λ (t : List ℕ). x ∷ t) is) ] in
    elim (eqb_tells x 10) [ inl (test, is) ↦ subst P (sym test) (feed is) | inr (test, differs) ↦ subst P (sym test) none ]

-- no line has a line feed
no_feed : (xs : List ℕ) → All (λ x. x ≢ 10) (first_line xs)
no_feed [] = All-nil (λ x. x ≢ 10)
no_feed (x ∷ xs) =
    let P = λ (b : Bool). All (λ y. y ≢ 10) (if b then [] else x ∷ first_line xs) in
    elim (eqb_tells x 10) [ inl (test, is) ↦ subst P (sym test) (All-nil (λ y. y ≢ 10)) | inr (test, differs) ↦ subst P (sym test) (All-cons (λ y. y ≢ 10) x (first_line xs) differs (no_feed xs)) ]

-- the text without the line feed that ends it, if one does
abbrev pub IsCut : List ℕ → List ℕ → Type 0
IsCut text line =
    ((slice_get text (length text - 1) ≡ Some 10) × (line ≡ take (length text - 1) text)) ⊎ ((slice_get text (length text - 1) ≡ Some 10 → ⊥) × (line ≡ text))

before_feed : (line : List ℕ) → take (length (line ++ 10 ∷ []) - 1) (line ++ 10 ∷ []) ≡ line
before_feed line = let e : length (line ++ 10 ∷ []) - 1 ≡ length line = omega (arith, length-append line (10 ∷ [])) in rw e (take-append_seam line (10 ∷ []))

ends_in_feed : (line : List ℕ) → slice_get (line ++ 10 ∷ []) (length (line ++ 10 ∷ []) - 1) ≡ Some 10
ends_in_feed [] = refl
ends_in_feed (x ∷ xs) = let e : length ((x ∷ xs) ++ 10 ∷ []) - 1 ≡ suc (length (xs ++ 10 ∷ []) - 1) = omega (arith, length-append xs (10 ∷ [])) in rw e (ends_in_feed xs)

-- a text without a line feed doesn't end with one
no_feed_ends : (line : List ℕ) → All (λ x. x ≢ 10) line → slice_get line (length line - 1) ≡ Some 10 → ⊥
no_feed_ends line none is =
    let k = length line - 1 in
    All-get_or (λ x. x ≢ 10) line k 0 (slice_get_within line k 10 is) none (get_or_from_slice_get line k 10 0 is)

-- what is read up to a line feed is cut to the first line
cut_is_first : (xs line : List ℕ) → IsCut (take_through 10 xs) line → line ≡ first_line xs
cut_is_first xs line (inl (feed, is)) = elim (is_first xs) [
  | inl first ↦ is ∙ ap (λ (t : List ℕ). take (length t - 1) t) first ∙ before_feed (first_line xs)
  | inr first ↦ absurd (no_feed_ends (first_line xs) (no_feed xs) (subst (λ (t : List ℕ). slice_get t (length t - 1) ≡ Some 10) first feed))
]
cut_is_first xs line (inr (no_feed_there, is)) = elim (is_first xs) [
  | inl first ↦ absurd (no_feed_there (subst (λ (t : List ℕ). slice_get t (length t - 1) ≡ Some 10) (sym first) (ends_in_feed (first_line xs))))
  | inr first ↦ is ∙ first
]

-- one line is taken
pub one_taken : (read left : Option (List ℕ)) (text line : List ℕ) → IfSome read (λ xs. text ≡ take_through 10 xs) → DropsThrough read left 10 → 0 < length text → IsCut text line → TakesLines read left (line ∷ [])
one_taken None left text line is rest some cut = tt
one_taken (Some []) left text line is rest some cut = absurd (omega (arith, ap (λ (t : List ℕ). length t) is))
one_taken (Some (x ∷ xs)) left text line is rest some cut =
    let first = cut_is_first (x ∷ xs) line (subst (λ (t : List ℕ). IsCut t line) is cut) in
    subst (λ (l : Option (List ℕ)). TakesLines (Some (x ∷ xs)) l (line ∷ [])) (sym rest) (first_and_rest x xs ∙ ap (λ (l : List ℕ). l ∷ lines_of (drop_through 10 (x ∷ xs))) (sym first))

-- none is left to take
pub none_taken : (read left : Option (List ℕ)) → IsAtEnd read → DropsThrough read left 10 → TakesLines read left [] × HasEnded read left
none_taken None left end rest = (tt, tt)
none_taken (Some xs) left end rest =
    let known = subst (λ (l : List ℕ). left ≡ Some (drop_through 10 l)) end rest in
    subst (λ (l : Option (List ℕ)). TakesLines (Some xs) l [] × HasEnded (Some xs) l) (sym known) (ap lines_of end, refl)

-- lines are taken after others
pub more_taken : (read mid left : Option (List ℕ)) (lines more : List (List ℕ)) → TakesLines read mid lines → TakesLines mid left more → TakesLines read left (lines ++ more)
more_taken None mid left lines more first second = tt
more_taken (Some xs) None left lines more first second = absurd first
more_taken (Some xs) (Some ys) None lines more first second = absurd second
more_taken (Some xs) (Some ys) (Some zs) lines more first second = first ∙ ap (λ (l : List (List ℕ)). lines ++ l) second ∙ sym (append_assoc lines more (lines_of zs))

pub nothing_taken : (read : Option (List ℕ)) → TakesLines read read []
nothing_taken None = tt
nothing_taken (Some xs) = refl

-- an input from which lines were taken has ended where the rest has
pub ended_after : (read mid left : Option (List ℕ)) (lines : List (List ℕ)) → TakesLines read mid lines → HasEnded mid left → HasEnded read left
ended_after None mid left lines taken ended = tt
ended_after (Some xs) None left lines taken ended = absurd taken
ended_after (Some xs) (Some ys) left lines taken ended = ended
