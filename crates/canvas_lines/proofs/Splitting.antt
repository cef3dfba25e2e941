-- The first of the lines.
use Rattle.std.proofs.Common.{◌≡◌, ◌≢◌, ℕ, zero, suc, ◌+◌, ◌-◌, ◌<◌, ◌==◌, cond, List, [], ◌∷◌, length, get_or, take, drop, ap, ◌∙◌, arith}
use Rattle.std.proofs.lemmas.Bool.Decides.{nat_tests}
use Rattle.std.proofs.lemmas.Grind.{common_steps}
use Rattle.canvas_lines.specs.Lines.{lines_of, onto}

-- no line feed below n
abbrev pub NoFeedBelow : List ℕ → ℕ → Type 0
NoFeedBelow s n = (k : ℕ) → k < n → get_or s k 0 ≢ 10

not_feed : (b : ℕ) (x y : List (List ℕ)) → b ≢ 10 → cond (b == 10) x y ≡ y
not_feed b x y ne = grind (arith, nat_tests)

feed : (b : ℕ) (x y : List (List ℕ)) → b ≡ 10 → cond (b == 10) x y ≡ x
feed b x y e = grind (arith, nat_tests)

pub line_at : (s : List ℕ) (i : ℕ) → i < length s → get_or s i 0 ≡ 10 → NoFeedBelow s i → lines_of s ≡ take i s ∷ lines_of (drop (suc i) s)
line_at [] i lt here none = absurd (omega arith)
line_at (b ∷ s) zero lt here none = feed b _ _ here
line_at (b ∷ s) (suc i) lt here none =
    not_feed b _ _ (none 0 (omega arith)) ∙ ap (onto b) (line_at s i (omega arith) here (λ k lt. none (suc k) (omega arith)))

pub last_line : (s : List ℕ) → 0 < length s → NoFeedBelow s (length s) → lines_of s ≡ s ∷ []
last_line [] lt none = absurd (omega arith)
last_line (b ∷ []) lt none = not_feed b _ _ (none 0 (omega arith))
last_line (b ∷ c ∷ s) lt none =
    not_feed b _ _ (none 0 (omega arith)) ∙ ap (onto b) (last_line (c ∷ s) (omega arith) (λ k lt. none (suc k) (omega arith)))

-- the slices of the code
pub rest_of : (s : List ℕ) (i : ℕ) → drop (suc i) s ≡ take (length s - (i + 1)) (drop (i + 1) s)
rest_of s i = grind (arith, common_steps)

pub none_left : (s : List ℕ) → [] ≡ take (length s - length s) (drop (length s) s)
none_left s = grind (arith, common_steps)
