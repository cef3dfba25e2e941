-- The bytes of answers.
use Rattle.std.proofs.Common.{◌≡◌, ℕ, ◌+◌, List, [], ◌++◌, length, take, drop, sym, ap, ◌∙◌, append-nil, append_assoc, take-append-drop}
use Rattle.std.proofs.lemmas.List.{drop-drop}
use Rattle.std.proofs.Math.Seq.{drop-length}

-- bytes with none behind them
pub owned : (own : List ℕ) → own ++ [] ≡ own
owned own = append-nil own

-- so many of an answer's own bytes leave
pub own_leave : (own shared : List ℕ) (sent count : ℕ) → (front : List ℕ) × (drop sent own ++ shared ≡ front ++ (drop (sent + count) own ++ shared))
own_leave own shared sent count = (
  take count (drop sent own),
  ap (λ l. l ++ shared) (sym (take-append-drop count (drop sent own)) ∙ ap (λ l. take count (drop sent own) ++ l) (drop-drop count sent own))
      ∙ append_assoc (take count (drop sent own)) (drop (sent + count) own) shared,
)

-- so many of the shared bytes leave, once all own ones have
pub shared_leave : (own shared : List ℕ) (sent count : ℕ) → sent ≡ length own → (front : List ℕ) × (drop sent own ++ shared ≡ front ++ (drop sent own ++ drop count shared))
shared_leave own shared sent count all =
    let none : drop sent own ≡ [] = ap (λ n. drop n own) all ∙ drop-length own in (
      take count shared,
      ap (λ l. l ++ shared) none ∙ sym (take-append-drop count shared) ∙ ap (λ l. take count shared ++ (l ++ drop count shared)) (sym none),
    )
