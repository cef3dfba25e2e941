-- One line more behind others.
use Rattle.std.proofs.Common.{◌≡◌, ◌∙◌, ℕ, List, [], ◌∷◌, ◌++◌, ap, sym, append_assoc, rules}
use Rattle.std.specs.List.{AllByRecursion}
use Rattle.disk_integrity.specs.Lines.{with_ends}

ends_behind : (before : List (List ℕ)) (line behind : List ℕ) → with_ends before ++ (line ++ 10 ∷ behind) ≡ with_ends (before ++ line ∷ []) ++ behind
ends_behind [] line behind = search (rules, append_assoc)
ends_behind (first ∷ before) line behind =
    let more = ends_behind before line behind in
    append_assoc (first ++ 10 ∷ []) (with_ends before) (line ++ 10 ∷ behind) ∙ ap (λ (x : List ℕ). (first ++ 10 ∷ []) ++ x) more
    ∙ sym (append_assoc (first ++ 10 ∷ []) (with_ends (before ++ line ∷ [])) behind)

-- the bytes before a line, and behind it
pub one_more : (sums rest line behind : List ℕ) (before : List (List ℕ)) → sums ≡ with_ends before ++ rest → rest ≡ line ++ 10 ∷ behind
    → sums ≡ with_ends (before ++ line ∷ []) ++ behind
one_more sums rest line behind before all split = all ∙ ap (λ (x : List ℕ). with_ends before ++ x) split ∙ ends_behind before line behind

-- what holds of each of these and of one more
pub each_more : (P : List ℕ → Type 0) (xs : List (List ℕ)) (x : List ℕ) → AllByRecursion P xs → P x → AllByRecursion P (xs ++ x ∷ [])
each_more P [] x all one = (one, tt)
each_more P (y ∷ xs) x all one = (all.0, each_more P xs x all.1 one)
