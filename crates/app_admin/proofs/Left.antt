-- What is found in a folder of one segment.
use Rattle.std.proofs.Common.{◌≡◌, ℕ, true, List, [], ◌∷◌, inl, inr, refl, sym, ◌∙◌, ap, subst}
use Rattle.canvas_shelf.specs.Disk.{Segment, Content, Image, numbers, seen, top_is_listed}
use Rattle.canvas_journal.specs.Found.{Finding, Finds}
use Rattle.canvas_journal.specs.OnDisk.{on_top}
use Rattle.canvas_journal.proofs.Begin.{top_alone}

-- where nothing is listed and nothing that was retired stands on top, nothing is there
pub none_there : (disk : List Segment) → top_is_listed disk ≡ true → numbers disk ≡ [] → disk ≡ []
none_there [] top none = refl
none_there (s ∷ disk) top none =
    let first : numbers (s ∷ disk) ≡ s.number ∷ numbers disk = rw top in
    absurd (cc (sym first ∙ none))

same_rest : (n : ℕ) (bytes front : List ℕ) (a b : Content) (left : Content) → left ≡ (n, bytes) ∷ a → left ≡ (n, front) ∷ b → a ≡ b
same_rest n bytes front a b left is also = let same : (n, bytes) ∷ a ≡ (n, front) ∷ b = sym is ∙ also in cc same

-- a crash leaves the one segment as it is, where it is synced
pub one_left : (n : ℕ) (bytes : List ℕ) (left : Content) → Image (on_top n bytes bytes ∷ []) left → left ≡ (n, bytes) ∷ []
one_left n bytes left (inl (missing, image)) = absurd missing
one_left n bytes left (inr (front, rest, is, may, image)) =
    let alone = top_alone n bytes [] left (inr (front, rest, is, may, image)) in
    let none : alone.0 ≡ [] = same_rest n bytes front alone.0 rest left alone.1 is ∙ image in
    alone.1 ∙ ap (λ (c : Content). (n, bytes) ∷ c) none

-- so what is found there is found after a crash
pub found_left : (disk : List Segment) (n : ℕ) (bytes : List ℕ) (found : Finding) → disk ≡ on_top n bytes bytes ∷ [] → Finds (seen disk) found → (left : Content) → Image disk left → Finds left found
found_left disk n bytes found is finds left image =
    let same = one_left n bytes left (subst (λ (d : List Segment). Image d left) is image) in
    let there : Finds ((n, bytes) ∷ []) found = subst (λ (d : List Segment). Finds (seen d) found) is finds in
    subst (λ (c : Content). Finds c found) (sym same) there
