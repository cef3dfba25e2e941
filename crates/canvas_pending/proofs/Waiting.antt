-- Counts of changes, of which one comes or goes.
use Rattle.std.proofs.Common.{◌≡◌, ℕ, zero, suc, ◌+◌, ◌<◌, Bool, true, false, cond, List, [], ◌∷◌, ◌++◌, take, drop, refl, sym, ap, ◌∙◌, add-one, arith}
use Rattle.std.specs.Prelude.{◌&&◌, ◌||◌, nat_lt}
use Rattle.std.specs.List.{count_by, list_any}
use Rattle.std.specs.Option.{unwrap_or}
use Rattle.std.specs.Map.{count_at}
use Rattle.std.proofs.lemmas.List.Sums.{sum_by-append}
use Rattle.canvas_model.specs.Change.{Change}
use Rattle.canvas_model.specs.Receive.{staying}
use Rattle.canvas_model.specs.View.{deletes_it, moves_it, sets_it}
use Rattle.canvas_pending.specs.Tallied.{of_objects, of_props}
use Rattle.canvas_pending.specs.Tallies.{AreTalliesOf, AreTallies, CountsSame, CountsToo, IsCounted}
use Rattle.canvas_pending.specs.declared.tallies.Tallies.{Tallies}

module _ (f : Change → Bool) where
  last_counted : (xs : List Change) (x : Change) → count_by f (xs ++ x ∷ []) ≡ count_by f xs + cond (f x) 1 0
  last_counted xs x = let e = sum_by-append (λ x. cond (f x) 1 0) xs (x ∷ []) in omega (arith, e)

  first_counted : (x : Change) (xs : List Change) → count_by f (x ∷ xs) ≡ count_by f xs + cond (f x) 1 0
  first_counted x xs = let e = sum_by-append (λ x. cond (f x) 1 0) (x ∷ []) xs in omega (arith, e)

  above_none : (n : ℕ) → true ≡ nat_lt 0 (n + 1)
  above_none n = grind arith

  above_one : (n : ℕ) → nat_lt 1 (n + 1) ≡ nat_lt 0 n
  above_one zero = refl
  above_one (suc n) = grind arith

  -- some change passes where the count isn't 0
  any_counted : (xs : List Change) → nat_lt 0 (count_by f xs) ≡ list_any f xs
  any_counted [] = refl
  any_counted (x ∷ xs) = ap (nat_lt 0) (first_counted x xs) ∙ by (f x) (any_counted xs)
    where
      by : (b : Bool) → nat_lt 0 (count_by f xs) ≡ list_any f xs → nat_lt 0 (count_by f xs + cond b 1 0) ≡ (b || list_any f xs)
      by true h = sym (above_none (count_by f xs))
      by false h = ap (nat_lt 0) (none (count_by f xs)) ∙ h
        where
          none : (n : ℕ) → n + 0 ≡ n
          none n = omega arith

  -- the same without the first change
  any_later : (xs : List Change) (first : Bool) → first ≡ list_any f (take 1 xs) → cond first (nat_lt 1 (count_by f xs)) (nat_lt 0 (count_by f xs)) ≡ list_any f (drop 1 xs)
  any_later [] first is = ap (λ b. cond b (nat_lt 1 0) (nat_lt 0 0)) is
  any_later (x ∷ xs) first is = ap (λ b. cond b (nat_lt 1 (count_by f (x ∷ xs))) (nat_lt 0 (count_by f (x ∷ xs)))) is ∙ ap (λ n. cond (f x || false) (nat_lt 1 n) (nat_lt 0 n)) (first_counted x xs) ∙ by (f x)
    where
      none : (n : ℕ) → n + 0 ≡ n
      none n = omega arith

      by : (b : Bool) → cond (b || false) (nat_lt 1 (count_by f xs + cond b 1 0)) (nat_lt 0 (count_by f xs + cond b 1 0)) ≡ list_any f xs
      by true = above_one (count_by f xs) ∙ any_counted xs
      by false = ap (nat_lt 0) (none (count_by f xs)) ∙ any_counted xs

  -- what a count says of the changes that stay
  pub any_staying : (own first r : Bool) (n : ℕ) (xs : List Change) → first ≡ (own && list_any f (take 1 xs)) → n ≡ count_by f xs → r ≡ cond first (nat_lt 1 n) (nat_lt 0 n) → r ≡ list_any f (staying own xs)
  any_staying true first r n xs is counted told = told ∙ ap (λ n. cond first (nat_lt 1 n) (nat_lt 0 n)) counted ∙ any_later xs first is
  any_staying false first r n xs is counted told = told ∙ ap (λ b. cond b (nat_lt 1 n) (nat_lt 0 n)) is ∙ ap (nat_lt 0) counted ∙ any_counted xs

-- ys has the changes of xs and this one
abbrev pub Adds : Change → List Change → List Change → Type 0
Adds x xs ys = (f : Change → Bool) → count_by f ys ≡ count_by f xs + cond (f x) 1 0

pub adds_last : (x : Change) (xs ys : List Change) → ys ≡ xs ++ x ∷ [] → Adds x xs ys
adds_last x xs ys is f = ap (count_by f) is ∙ last_counted f xs x

pub adds_first : (x : Change) (xs ys : List Change) → ys ≡ x ∷ xs → Adds x xs ys
adds_first x xs ys is f = ap (count_by f) is ∙ first_counted f x xs

module _ {A : Type 0} (x : Change) (xs ys : List Change) (adds : Adds x xs ys) where
  -- each of them is counted
  pub is_counted : (t : Tallies A) → AreTalliesOf ys t → IsCounted x t
  is_counted t are = record {
    moves = λ q hit. above (moves_it q) (count_at (of_objects t.moves) q) (are.moves q) hit;
    deletes = λ q hit. above (deletes_it q) (count_at (of_objects t.deletes) q) (are.deletes q) hit;
    sets = λ q name hit. above (sets_it q name) (count_at (of_props t.sets) (q, name)) (are.sets (q, name)) hit;
  }
    where
      above : (f : Change → Bool) (n : ℕ) → n ≡ count_by f ys → f x ≡ true → 0 < n
      above f n is hit = let more = adds f ∙ ap (λ b. count_by f xs + cond b 1 0) hit in omega (arith, is, more)

  module _ (old new : Tallies A) (tallies : AreTallies new) where
    -- one more
    pub one_more : AreTalliesOf xs old → CountsToo x old new → AreTalliesOf ys new
    one_more are too = record {
      tallies = tallies;
      moves = λ q. raised (moves_it q) _ _ (are.moves q) (too.moves q);
      deletes = λ q. raised (deletes_it q) _ _ (are.deletes q) (too.deletes q);
      sets = λ k. raised (sets_it k.0 k.1) _ _ (are.sets k) (too.sets k);
    }
      where
        raised : (f : Change → Bool) (m n : ℕ) → m ≡ count_by f xs → n ≡ m + cond (f x) 1 0 → n ≡ count_by f ys
        raised f m n is up = up ∙ ap (λ m. m + cond (f x) 1 0) is ∙ sym (adds f)

    -- one less
    pub one_less : AreTalliesOf ys old → CountsToo x new old → AreTalliesOf xs new
    one_less are too = record {
      tallies = tallies;
      moves = λ q. lowered (moves_it q) _ _ (are.moves q) (too.moves q);
      deletes = λ q. lowered (deletes_it q) _ _ (are.deletes q) (too.deletes q);
      sets = λ k. lowered (sets_it k.0 k.1) _ _ (are.sets k) (too.sets k);
    }
      where
        lowered : (f : Change → Bool) (m n : ℕ) → m ≡ count_by f ys → m ≡ n + cond (f x) 1 0 → n ≡ count_by f xs
        lowered f m n is down = let more = adds f in omega (arith, is, down, more)

-- the same counts
pub same_counts : {A : Type 0} (xs ys : List Change) (old new : Tallies A) → ys ≡ xs → AreTallies new → AreTalliesOf xs old → CountsSame old new → AreTalliesOf ys new
same_counts xs ys old new is tallies are same = record {
  tallies = tallies;
  moves = λ q. ap (λ o. unwrap_or o 0) (same.moves q) ∙ are.moves q ∙ ap (count_by (moves_it q)) (sym is);
  deletes = λ q. ap (λ o. unwrap_or o 0) (same.deletes q) ∙ are.deletes q ∙ ap (count_by (deletes_it q)) (sym is);
  sets = λ k. ap (λ o. unwrap_or o 0) (same.sets k) ∙ are.sets k ∙ ap (count_by (sets_it k.0 k.1)) (sym is);
}

-- one more of the first changes taken out
pub one_dropped : (n : ℕ) (xs : List Change) → drop 1 (drop n xs) ≡ drop (n + 1) xs
one_dropped zero xs = refl
one_dropped (suc n) [] = rw add-one refl
one_dropped (suc n) (x ∷ xs) = one_dropped n xs ∙ ap (λ k. drop k (x ∷ xs)) (later n)
  where
    later : (n : ℕ) → suc (n + 1) ≡ suc n + 1
    later n = omega arith
